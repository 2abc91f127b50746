use Rattle.std.proofs.Common.{◌∙◌, ◌≡◌, ◌+◌, ◌-◌, ◌<◌, ◌≤◌, ◌++◌, ◌∷◌, [], List, Option, Some, None, ℕ, ap, sym, refl, subst, length, length-append, replicate, arith}
use Rattle.std.specs.Prelude.{slice_index_or, slice_set}
use Rattle.disk_file.specs.block_device.declared.block.Block.{Block}
use Rattle.sunvm.specs.BlankDisks.{blank_content}
use Rattle.sunvm.specs.BlankPlaces.{AreBlockPlaces}
use Rattle.sunvm.proofs.BlankDiskLemmas.{content-again, content-new, few-new, placed-new, room}
use Rattle.sunvm.proofs.blank_disk.BlankDiskDisk.write.Goals.{In-None}
use Rattle.sunvm.proofs.blank_disk.BlankDiskDisk.write.Goals as goal

-- the block has no place yet
none : (c : In-None) → slice_index_or c.args.self.now.places.items c.args.block None ≡ None
none c = sym (c.place_of.ensures ∙ ap (λ (l : List (Option ℕ)). slice_index_or l c.args.block None) c.deref.ensures.value) ∙ c.in-None.is

less : (c : In-None) → length c.args.self.now.written.items < c.args.self.now.size
less c = let d = c.args.self.now in room d.places.items d.written.items d.size c.args.block c.requires.block d.few (none c) d.placed

pub write_first-requires-clause-room_of_blocks : goal.write_first-requires-clause-room_of_blocks
write_first-requires-clause-room_of_blocks c = let lt = less (goal.at.write_first-requires-clause-room_of_blocks c).In-None in let le = c.args.self.now.room_of_blocks in omega (arith, lt, le)

pub write_first-requires-clause-few : goal.write_first-requires-clause-few
write_first-requires-clause-few c = let lt = less (goal.at.write_first-requires-clause-few c).In-None in let small = c.args.self.now.small in omega (arith, lt, small)

pub invariant_of-self-in-None : goal.invariant_of-self-in-None
invariant_of-self-in-None c =
    let d = c.args.self.now in
    let n = none (goal.at.invariant_of-self-in-None c).In-None in
    let new = c.write_first.ensures in
    let counted = ap (λ (l : List Block). length l) new.written.2 ∙ length-append d.written.items (new.written.0 ∷ []) in
    record {
      small = d.small;
      few = subst (λ (l : List (Option ℕ)). length l ≤ d.size) (sym new.places) (few-new d.places.items d.written.items d.size c.args.block c.requires.block d.few n d.placed);
      placed = subst (λ (k : ℕ). AreBlockPlaces c.write_first.new.places.items k) (sym counted) (subst (λ (l : List (Option ℕ)). AreBlockPlaces l (length d.written.items + 1)) (sym new.places) (placed-new d.places.items d.written.items d.size c.args.block c.requires.block d.few n d.placed));
      room_of_places = subst (λ (k : ℕ). d.size ≤ k) (sym new.capacity) d.room_of_places;
      room_of_blocks = subst (λ (k : ℕ). d.size ≤ k) (sym new.capacity_of_blocks) d.room_of_blocks;
    }

pub returns-in-Some : goal.returns-in-Some
returns-in-Some c =
    let d = c.args.self.now in
    let is : slice_index_or d.places.items c.args.block None ≡ Some c.in-Some.place = sym (c.place_of.ensures ∙ ap (λ (l : List (Option ℕ)). slice_index_or l c.args.block None) c.deref.ensures.value) ∙ c.in-Some.is in
    record {
      written = ap (λ (all : List (List ℕ)). Some all) (content-again d.places.items d.written.items d.size c.args.block c.in-Some.place _ is d.placed ∙ ap (slice_set (blank_content d.places.items d.written.items d.size) c.args.block) c.copy_from_slice.ensures.after);
      spoiled = tt;
      size = refl;
      kind = refl;
      steady = refl;
      calls = omega (arith, c.saturating_add-self.ensures);
      cause = record { later = omega arith; failed = tt };
    }

pub returns-in-None : goal.returns-in-None
returns-in-None c =
    let d = c.args.self.now in
    let n = none (goal.at.returns-in-None c).In-None in
    let new = c.write_first.ensures in
    let b = new.written.0 in
    record {
      written = ap (λ (all : List (List ℕ)). Some all) (ap (λ (ps : List (Option ℕ)). blank_content ps c.write_first.new.written.items d.size) new.places
          ∙ ap (λ (ws : List Block). blank_content (slice_set (d.places.items ++ replicate (c.args.block + 1 - length d.places.items) None) c.args.block (Some (length d.written.items))) ws d.size) new.written.2
          ∙ content-new d.places.items d.written.items d.size c.args.block c.requires.block d.few n d.placed b
          ∙ ap (slice_set (blank_content d.places.items d.written.items d.size) c.args.block) new.written.1);
      spoiled = tt;
      size = refl;
      kind = refl;
      steady = refl;
      calls = omega (arith, c.saturating_add-self.ensures);
      cause = record { later = omega arith; failed = tt };
    }
