-- A run that ended, and how its disks are handed back.
use Rattle.std.proofs.Common.{◌≡◌, ℕ, ◌≤◌, List, [], ◌∷◌, length, map, Option, None, refl, sym, ap, ◌∙◌, subst, arith}
use Rattle.std.specs.Prelude.{◌==◌, All, IfSome, Ok, option_map, zip}
use Rattle.std.specs.List.{IsDistinct}
use Rattle.std.specs.List.Sorted.{IsNonDecreasingBy, IsPermutation}
use Rattle.std.proofs.lemmas.List.Sorted.{IsPermutation-refl}
use Rattle.std.proofs.lemmas.Option.{none-some}
use Rattle.volume_files.specs.block_device.DiskSeen.{DiskSeen}
use Rattle.volume_files.specs.joined_disk.JoinedSeen.{joined_seen}
use Rattle.volume_files.specs.joined_disk.declared.joined.JoinedDisk.{JoinedDisk}
use Rattle.volume_files.specs.volume_disks.Singles.{as_single, single_seen}
use Rattle.volume_files.specs.volume_disks.declared.single.Single.{Single}
use Rattle.volume_files.specs.Numbers.{disk_numbers}
use Rattle.volume_files.proofs.LawLemmas.{joins-right}
use Rattle.volume_files.proofs.NumbersDiffer.{numbers-differ}
use Rattle.run_input.specs.Asked.{Asked, Given, WasAsked}
use Rattle.run_outcome.specs.Ended.{End, end_of}
use Rattle.run_outcome.specs.MemberRooms.{IsSeenByParts, volume_parts, numbered}
use Rattle.run_outcome.specs.Members.{AreSeenBy, HandsDisks, WasRun, RiseBy, all_disks, with_text}
use Rattle.run_outcome.specs.Run.{Outside, PrintsLegalTrace, RunEnds}
use Rattle.run_outcome.specs.declared.outcome.Outcome.{Outcome}
use Rattle.run_input.proofs.AskedRules.{asked-rules}
use Rattle.run_outcome.proofs.CameBack.{asked-back, one-back}
use Rattle.run_outcome.proofs.Completes.{completes}
use Rattle.run_outcome.proofs.MemberLists.{all-back, all-seen, as-many, parts_of, parts_seen, rise-by, swap-seen, volumes-seen}
use Rattle.run_outcome.proofs.TextsTold.{IsText}

-- the disks of an outcome's volumes, which were put under numbers and sorted
pub hands : {D : Type 0} {disk : _} (seen : D → DiskSeen) (g : Given) (o : Outside) (text : List ℕ) (ns : List ℕ) (over : Outcome (JoinedDisk (Single D) disk)) (back : Outcome D) (sorted : List (ℕ × D))
    → back.status ≡ over.status → back.fault ≡ over.fault → back.history ≡ over.history
    → All (IsSeenByParts (single_seen seen)) over.disks.items → IfSome over.swap (IsSeenByParts (single_seen seen))
    → IsPermutation (numbered ns (parts_of over.disks.items)) sorted → IsNonDecreasingBy (λ (d : ℕ × D). d.0) sorted
    → back.disks.items ≡ map (λ (d : ℕ × D). d.1) sorted → back.swap ≡ option_map (λ v. (volume_parts v).0) over.swap
    → RunEnds (with_text g text) o (end_of (joined_seen (single_seen seen)) over)
    → ((what : Asked) → WasAsked (with_text g text) (Ok what) → ns ≡ disk_numbers what.plan.setup)
    → HandsDisks (with_text g text) (end_of (joined_seen (single_seen seen)) over) (end_of seen back)
hands {D} seen g o text ns over back sorted st ft hi volumes slot moved rises disks last ends asked =
    let e = end_of (joined_seen (single_seen seen)) over in
    let xs : List D = parts_of over.disks.items in record {
      status = st;
      fault = ft;
      history = hi;
      disks = map (parts_seen seen) over.disks.items;
      volumes = volumes-seen seen over.disks.items volumes;
      swap = swap-seen seen over.swap slot (one-back (with_text g text) o e ends) ∙ ap (λ (s : Option D). option_map as_single (option_map seen s)) (sym last);
      all = subst (λ (l : List D). IsPermutation (all_disks (map (parts_seen seen) over.disks.items)) (map seen l)) (sym disks)
          (subst (λ (l : List DiskSeen). IsPermutation l (map seen (map (λ (d : ℕ × D). d.1) sorted))) (all-seen seen over.disks.items) (all-back seen ns xs sorted moved));
      rising = λ what was.
          let few = asked-back g o text e ends what was in
          let many = as-many seen over.disks.items volumes in
          let same = ap length (asked what was) in
          let enough : length xs ≤ length ns = omega (arith, few, many, same) in
          let right = joins-right what.plan (asked-rules (with_text g text) what was) in
          let differ : IsDistinct (λ (a b : ℕ). a == b) ns = subst (IsDistinct (λ (a b : ℕ). a == b)) (sym (asked what was)) (numbers-differ what.plan.setup right) in
          subst (λ (l : List ℕ). RiseBy l (all_disks (map (parts_seen seen) over.disks.items)) (map seen back.disks.items)) (asked what was)
          (subst (λ (l : List D). RiseBy ns (all_disks (map (parts_seen seen) over.disks.items)) (map seen l)) (sym disks)
          (subst (λ (l : List DiskSeen). RiseBy ns l (map seen (map (λ (d : ℕ × D). d.1) sorted))) (all-seen seen over.disks.items) (rise-by seen ns xs sorted differ enough moved rises)));
    }

-- nothing was attached
pub hands-none : (g : Given) (e : End) → e.disks ≡ [] → e.swap ≡ None → HandsDisks g e e
hands-none g e none last = record {
  status = refl;
  fault = refl;
  history = refl;
  disks = [];
  volumes = subst (AreSeenBy []) (sym none) (record { count = refl; each = λ i p v at is. absurd (none-some p at) });
  swap = last ∙ ap (option_map as_single) (sym last);
  all = subst (IsPermutation []) (sym none) (IsPermutation-refl []);
  rising = λ what was. subst (RiseBy (disk_numbers what.plan.setup) []) (sym none) (record {
    few = omega arith;
    order = [];
    same = subst (λ (l : List (ℕ × DiskSeen)). IsPermutation l []) (zip-none (disk_numbers what.plan.setup)) (IsPermutation-refl []);
    rising = λ k lt. absurd (omega (arith, lt));
    bare = refl;
  });
}
  where
    zip-none : (ns : List ℕ) → ◌≡◌ {A = List (ℕ × DiskSeen)} [] (zip ns [])
    zip-none [] = refl
    zip-none (n ∷ ns) = refl

-- the run, by its end over the volumes
pub was-run : ((g : Given) (o : Outside) (e : End) → RunEnds g o e → PrintsLegalTrace g o e) → (g : Given) (o : Outside) (text : List ℕ) → IsText g.rest text → (over back : End)
    → RunEnds (with_text g text) o over → HandsDisks (with_text g text) over back → WasRun g o back
was-run prints g o text told over back ends handed = record {
  text = text;
  told = told;
  end = over;
  ends = ends;
  complete = completes (with_text g text) o over ends;
  traced = prints (with_text g text) o over ends;
  handed = handed;
}
