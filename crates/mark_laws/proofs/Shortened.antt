-- An entry makes a file shorter.
use Rattle.std.proofs.Common.{◌≡◌, ◌≢◌, ℕ, zero, suc, ◌<◌, ◌≤◌, ◌==◌, Bool, true, false, cond, List, [], ◌∷◌, ◌++◌, length, take, Option, Some, None, refl, sym, ap, ◌∙◌, inl, inr, subst, arith}
use Rattle.std.specs.Prelude.{slice_get, nat_lt}
use Rattle.std.specs.Option.{option_map_or}
use Rattle.std.proofs.lemmas.Bool.{cases_eq, cases_Bool, eq-eqb, eqb-true, ltb-true, ltb-false}
use Rattle.flat_model.specs.vm_types.Pages.{bytes_before, pages_in}
use Rattle.flat_model.specs.vm_types.declared.call.Call.TheVariants.{Sync, Truncate}
use Rattle.flat_model.specs.vm_types.declared.call.Entry.{Entry}
use Rattle.flat_model.specs.vm_types.Parts.{file_of_call}
use Rattle.flat_model.specs.vnode_files.Vnode.{page_blocks}
use Rattle.flat_model.specs.Flat.{Flat, File}
use Rattle.flat_model.specs.History.{replay, Legal}
use Rattle.flat_model.proofs.Histories.{replay-push, slice_get-cases}
use Rattle.page_store.specs.page_hash.declared.PageName.{PageName}
use Rattle.page_store.specs.Notes.{Notes}
use Rattle.disk_marks.specs.declared.marks.Pushing.{Pushing}
use Rattle.disk_marks.specs.Marks.{MarksSeen, mark_row, push_of}
use Rattle.disk_marks.specs.Changes.{push_cut}
use Rattle.mark_laws.specs.Pages.{bytes_there, disk_place, HavePlacesApart}
use Rattle.mark_laws.specs.MarksFit.{DiskContents, MarksFit, pushed_page}
use Rattle.mark_laws.specs.FileLaws.{KeepsSize}
use Rattle.mark_laws.specs.Cuts.{CutsFile, marks_shortened}
use Rattle.mark_laws.specs.EntryLaws.{EntriesLaw}
use Rattle.mark_laws.proofs.Along.{some-and, none-before, some-before, before-some}
use Rattle.mark_laws.proofs.Cutting.{row_taken, row_unpushed, AreRows, cut-there, cut-other, cut-taken, cut-kept, cut-push}
use Rattle.mark_laws.proofs.Ending.{starts-first}
use Rattle.mark_laws.proofs.Entered.{RowTurns, PushTurns, files, turned-fits, entered-sync, entered-plain}
use Rattle.mark_laws.proofs.PagePlaces.{place-parts, place-of}
use Rattle.mark_laws.proofs.Shortenings.{cuts-by}

take-get : {A : Type 0} (n : ℕ) (xs : List A) (i : ℕ) → i < n → slice_get (take n xs) i ≡ slice_get xs i
take-get zero xs i lt = absurd (omega (arith, lt))
take-get (suc n) [] i lt = refl
take-get (suc n) (x ∷ xs) zero lt = refl
take-get (suc n) (x ∷ xs) (suc i) lt = take-get n xs i (omega (arith, lt))

take-some : {A : Type 0} (n : ℕ) (xs : List A) (i : ℕ) (x : A) → slice_get (take n xs) i ≡ Some x → (i < n) × (slice_get xs i ≡ Some x)
take-some {A} zero xs i x at = absurd (let z : ◌≡◌ {A = Option A} None (Some x) = at in cc)
take-some {A} (suc n) [] i x at = absurd (let z : ◌≡◌ {A = Option A} None (Some x) = at in cc)
take-some (suc n) (y ∷ xs) zero x at = (omega arith, at)
take-some (suc n) (y ∷ xs) (suc i) x at = let r = take-some n xs i x at in let lt = r.0 in (omega (arith, lt), r.1)

module _ (opening : Flat) (H : List Entry) (e : Entry) (contents : DiskContents) (notes : Notes) (m : MarksSeen) (fit : MarksFit opening H contents notes m)
    (legal : Legal opening H) (apart : HavePlacesApart (replay opening H)) (c : CutsFile (replay opening H) e) where
  abbrev old : Flat
  old = replay opening H

  abbrev new : Flat
  new = replay opening (H ++ e ∷ [])

  abbrev name-of : ℕ → PageName
  name-of page = record { object = c.f; page = page }

  abbrev from : ℕ
  from = pages_in c.old.len

  abbrev to : ℕ
  to = pages_in c.new.len

  abbrev blocks : List ℕ
  blocks = take (pages_in c.old.len) (page_blocks c.old.extents)

  abbrev cut : MarksSeen
  cut = marks_shortened m c.f c.old.disk c.old.extents c.old.len c.new.len (suc (length H))

  file-now : slice_get new.files c.f ≡ Some c.new
  file-now = ap (λ (F : Flat). slice_get F.files c.f) (replay-push opening H e) ∙ c.now

  by : (len : ℕ) × (e.call ≡ Truncate c.f len)
  by = cuts-by (replay opening H) e c

  -- THE FILE'S PAGES
  own-place : (page disk block : ℕ) → disk_place old (name-of page) ≡ Some (disk, block) → (c.old.disk ≡ disk) × (slice_get (page_blocks c.old.extents) page ≡ Some block)
  own-place page disk block at =
      let p = place-parts old (name-of page) disk block at in
      let same : p.file ≡ c.old = (let z : ◌≡◌ {A = Option File} (Some p.file) (Some c.old) = sym p.there ∙ c.was in cc) in
      (sym (ap (λ (x : File). x.disk) same) ∙ p.on, sym (ap (λ (x : File). slice_get (page_blocks x.extents) page) same) ∙ p.at)

  own-at : (page block : ℕ) → slice_get (page_blocks c.old.extents) page ≡ Some block → disk_place old (name-of page) ≡ Some (c.old.disk, block)
  own-at page block at = place-of old (name-of page) c.old block c.was at

  rows : AreRows c.old.disk blocks m
  rows = record {
    rows = λ i b at. fit.there (name-of i) c.old.disk b (own-at i b (take-some from (page_blocks c.old.extents) i b at).1);
    once = λ i k b a d. ap (λ (n : PageName). n.page)
        (apart (name-of i) (name-of k) c.old.disk b (own-at i b (take-some from (page_blocks c.old.extents) i b a).1) (own-at k b (take-some from (page_blocks c.old.extents) k b d).1));
  }

  end-old : (page : ℕ) → bytes_there old (name-of page) ≡ bytes_before c.old.len page
  end-old page = ap (λ (o : Option File). option_map_or (λ (file : File). bytes_before file.len page) o 0) c.was

  end-new : (page : ℕ) → bytes_there new (name-of page) ≡ bytes_before c.new.len page
  end-new page = ap (λ (o : Option File). option_map_or (λ (file : File). bytes_before file.len page) o 0) file-now

  -- .. and those of other files
  other-end : (name : PageName) → name.object ≢ c.f → bytes_there old name ≤ bytes_there new name
  other-end name far = by_file (slice_get old.files name.object) refl
    where
      not-own : file_of_call e.call ≢ Some name.object
      not-own is = far (let z : ◌≡◌ {A = Option ℕ} (Some name.object) (Some c.f) = sym is ∙ ap file_of_call by.1 in cc)

      by_file : (o : Option File) → slice_get old.files name.object ≡ o → option_map_or (λ (file : File). bytes_before file.len name.page) o 0 ≤ bytes_there new name
      by_file None is = omega arith
      by_file (Some file) is =
          let g = some-and (slice_get new.files name.object) (KeepsSize file) ((files opening H e contents notes m fit).sizes name.object file is not-own) in
          let len : g.0.len ≡ file.len = g.2.len in
          subst (λ (o : Option File). bytes_before file.len name.page ≤ option_map_or (λ (x : File). bytes_before x.len name.page) o 0) (sym g.1) (omega (arith, len))

  -- the row of a page that isn't one of those
  row-stays : (disk block : ℕ) → ((i : ℕ) → disk_place old (name-of i) ≡ Some (disk, block) → from ≤ i) → mark_row cut disk block ≡ mark_row m disk block
  row-stays disk block far = cut-other c.old.disk to (suc (length H)) blocks m disk block rows (λ i same at.
      let r = take-some from (page_blocks c.old.extents) i block at in
      let lt = r.0 in
      let le = far i (own-at i block r.1 ∙ (λ k. Some (sym same k, block))) in
      absurd (omega (arith, lt, le)))

  row-turns : (name : PageName) (disk block : ℕ) → disk_place old name ≡ Some (disk, block) → RowTurns opening H e contents notes m fit name (mark_row m disk block) (mark_row cut disk block)
  row-turns name disk block at = elim (cases_eq name.object c.f) [
    | inl own ↦ subst (λ (n : PageName). RowTurns opening H e contents notes m fit n (mark_row m disk block) (mark_row cut disk block)) (λ i. record { object = sym own i; page = name.page })
        (own-page name.page (ap (disk_place old) (λ i. let z : PageName = record { object = sym own i; page = name.page } in z) ∙ at))
    | inr far ↦ inl (row-stays disk block (λ i its. absurd (far (ap (λ (n : PageName). n.object) (apart name (name-of i) disk block at its)))), other-end name far)
  ]
    where
      own-page : (page : ℕ) → disk_place old (name-of page) ≡ Some (disk, block) → RowTurns opening H e contents notes m fit (name-of page) (mark_row m disk block) (mark_row cut disk block)
      own-page page its =
          let o = own-place page disk block its in
          elim (cases_Bool (nat_lt page from)) [
            | inl below ↦
                let lt = ltb-true page from below in
                let there : slice_get blocks page ≡ Some block = take-get from (page_blocks c.old.extents) page lt ∙ o.1 in
                elim (cases_Bool (nat_lt page to)) [
                  | inl stays ↦ inr (inl (subst (λ (d : ℕ). mark_row cut d block ≡ row_unpushed (mark_row m d block)) o.0 (cut-kept c.old.disk to (suc (length H)) blocks m page block rows there (ltb-true page to stays))))
                  | inr goes ↦ inr (inr (
                    subst (λ (d : ℕ). mark_row cut d block ≡ row_taken (suc (length H))) o.0 (cut-taken c.old.disk to (suc (length H)) blocks m page block rows there (ltb-false page to goes)),
                    end-new page ∙ none-before c.new.len page (ltb-false page to goes),
                    λ k b syn. starts-first opening H legal k b (name-of page) syn,
                  ))
                ]
            | inr past ↦
                let le = ltb-false page from past in
                let none : bytes_there old (name-of page) ≡ 0 = end-old page ∙ none-before c.old.len page le in
                inl (row-stays disk block (λ i i_at. let same = ap (λ (n : PageName). n.page) (apart (name-of page) (name-of i) disk block its i_at) in omega (arith, le, same)), omega (arith, none))
          ]

  push-turns : (seat : ℕ) → PushTurns opening H e contents notes m fit cut (push_of m seat) (push_of cut seat)
  push-turns seat = subst (PushTurns opening H e contents notes m fit cut (push_of m seat)) (sym (cut-push m c.f c.old.disk to (suc (length H)) blocks seat)) (by_push (push_of m seat) refl)
    where
      by_push : (o : Option Pushing) → push_of m seat ≡ o → PushTurns opening H e contents notes m fit cut o (push_cut c.f to o)
      by_push None is = refl
      by_push (Some p) is = by_file (p.file == c.f) refl (nat_lt p.page to) refl
        where
          by_file : (a : Bool) → (p.file == c.f) ≡ a → (b : Bool) → nat_lt p.page to ≡ b
              → PushTurns opening H e contents notes m fit cut (Some p) (cond a (cond b (Some (record p { whole = false })) None) (Some p))
          by_file false x b y = inl (refl, other-end (pushed_page p) (λ own. let z : true ≡ false = sym (eq-eqb p.file c.f own) ∙ x in cc))
          by_file true x true y =
              let own : p.file ≡ c.f = eqb-true p.file c.f x in
              let some = before-some c.new.len p.page (ltb-true p.page to y) in
              let end = end-new p.page in
              inr (inl (refl, subst (λ (f : ℕ). 0 < bytes_there new (record { object = f; page = p.page })) (sym own) (omega (arith, some, end))))
          by_file true x false y =
              let own : p.file ≡ c.f = eqb-true p.file c.f x in
              let inside : 0 < bytes_there old (name-of p.page) = subst (λ (f : ℕ). 0 < bytes_there old (record { object = f; page = p.page })) own (fit.inside seat p is) in
              let end = end-old p.page in
              let lt = some-before c.old.len p.page (omega (arith, inside, end)) in
              inr (inr (
                refl,
                λ disk block at.
                    let o = own-place p.page disk block (ap (λ (f : ℕ). disk_place old (record { object = f; page = p.page })) (sym own) ∙ at) in
                    let there : slice_get blocks p.page ≡ Some block = take-get from (page_blocks c.old.extents) p.page lt ∙ o.1 in
                    subst (λ (d : ℕ). mark_row cut d block ≡ row_taken (suc (length H))) o.0 (cut-taken c.old.disk to (suc (length H)) blocks m p.page block rows there (ltb-false p.page to y)),
              ))

  pub shortened : MarksFit opening (H ++ e ∷ []) contents notes (marks_shortened m c.f c.old.disk c.old.extents c.old.len c.new.len (suc (length H)))
  shortened = turned-fits opening H e contents notes m fit cut (record {
    there = λ disk block has. cut-there c.old.disk to (suc (length H)) blocks m disk block has;
    unused = λ disk block none. row-stays disk block (λ i at. absurd (none (name-of i) at));
    rows = row-turns;
    pushes = push-turns;
    answers = λ b name syn. absurd (elim (slice_get-cases H e syn.entry (length H) syn.at) [
      | inl h ↦ (let lt = h.0 in omega (arith, lt))
      | inr h ↦ (let z : Truncate c.f by.0 ≡ Sync syn.addr syn.len = sym by.1 ∙ ap (λ (x : Entry). x.call) h.1 ∙ syn.call in cc)
    ]);
  })

pub entries_rule : EntriesLaw
entries_rule = record {
  syncs = λ opening H e contents notes m fit uncut answers. entered-sync opening H e contents notes m fit uncut answers;
  plain = λ opening H e contents notes m fit uncut plain. entered-plain opening H e contents notes m fit uncut plain;
  cuts = λ opening H e contents notes m fit legal apart c. shortened opening H e contents notes m fit legal apart c;
}
