-- The pushes of a page are dropped of whose block nothing is promised.
use Rattle.std.proofs.Common.{◌≡◌, ◌≢◌, ℕ, ◌==◌, ◌&&◌, Bool, true, false, cond, List, Option, Some, None, refl, sym, ap, ◌∙◌, subst}
use Rattle.std.proofs.lemmas.Bool.{eq-eqb, eqb-true}
use Rattle.flat_model.specs.vm_types.declared.call.Entry.{Entry}
use Rattle.flat_model.specs.Flat.{Flat}
use Rattle.flat_model.specs.History.{replay}
use Rattle.page_store.specs.page_hash.declared.PageName.{PageName}
use Rattle.page_store.specs.Notes.{Note, Notes}
use Rattle.disk_marks.specs.declared.marks.Pushing.{Pushing}
use Rattle.disk_marks.specs.Marks.{MarksSeen, mark_row, push_of}
use Rattle.disk_marks.specs.Changes.{push_dropped, pushes_dropped}
use Rattle.mark_laws.specs.Pages.{disk_place}
use Rattle.mark_laws.specs.MarksFit.{DiskContents, IsDropped, SentFits, MarksFit, pushed_page}
use Rattle.mark_laws.proofs.Cutting.{push-map}

-- a push that is kept was kept before, and is of another page
abbrev IsOther : PageName → Option Pushing → Pushing → Type 0
IsOther name o push = (o ≡ Some push) × (pushed_page push ≢ name)

by-drop : (name : PageName) (o : Option Pushing) (push : Pushing) → push_dropped name.object name.page o ≡ Some push → IsOther name o push
by-drop name None push is = absurd (let z : ◌≡◌ {A = Option Pushing} None (Some push) = is in cc)
by-drop name (Some x) push is = both (x.file == name.object) refl (x.page == name.page) refl is
  where
    apart : (a b : ℕ) → (a == b) ≡ false → a ≢ b
    apart a b isnt e = let z : true ≡ false = sym (eq-eqb a b e) ∙ isnt in cc

    both : (a : Bool) → (x.file == name.object) ≡ a → (b : Bool) → (x.page == name.page) ≡ b → cond (a && b) None (Some x) ≡ Some push → IsOther name (Some x) push
    both true f true p is = absurd (let z : ◌≡◌ {A = Option Pushing} None (Some push) = is in cc)
    both true f false p is =
        let same : x ≡ push = (let z : ◌≡◌ {A = Option Pushing} (Some x) (Some push) = is in cc) in
        (is, λ named. apart x.page name.page p (ap (λ (y : Pushing). y.page) same ∙ ap (λ (n : PageName). n.page) named))
    both false f b p is =
        let same : x ≡ push = (let z : ◌≡◌ {A = Option Pushing} (Some x) (Some push) = is in cc) in
        (is, λ named. apart x.file name.object f (ap (λ (y : Pushing). y.file) same ∙ ap (λ (n : PageName). n.object) named))

pub drop-push : (m : MarksSeen) (name : PageName) (seat : ℕ) → push_of (pushes_dropped m name.object name.page) seat ≡ push_dropped name.object name.page (push_of m seat)
drop-push m name seat = push-map (push_dropped name.object name.page) refl m.pushes seat

pub left-push : (m : MarksSeen) (name : PageName) (seat : ℕ) (push : Pushing) → push_of (pushes_dropped m name.object name.page) seat ≡ Some push → IsOther name (push_of m seat) push
left-push m name seat push is = by-drop name (push_of m seat) push (sym (drop-push m name seat) ∙ is)

module _ (opening : Flat) (H : List Entry) (contents : DiskContents) (notes : Notes) (m : MarksSeen) (name : PageName) (fit : MarksFit opening H contents notes m)
    (unsaid : (disk block : ℕ) → disk_place (replay opening H) name ≡ Some (disk, block) → IsDropped (mark_row m disk block)) where
  sent-then : (note : Note) (o : Option Pushing) → disk_place (replay opening H) note.name ≡ Some (note.number, note.block)
      → SentFits opening H (mark_row m note.number note.block) note o → SentFits opening H (mark_row m note.number note.block) note (push_dropped name.object name.page o)
  sent-then note None at s = s
  sent-then note (Some x) at s = both (x.file == name.object) refl (x.page == name.page) refl
    where
      both : (a : Bool) → (x.file == name.object) ≡ a → (b : Bool) → (x.page == name.page) ≡ b → SentFits opening H (mark_row m note.number note.block) note (cond (a && b) None (Some x))
      both true f true p =
          let file = eqb-true x.file name.object f in
          let page = eqb-true x.page name.page p in
          let same : name ≡ note.name = (λ i. record { object = sym file i; page = sym page i }) ∙ s.name in
          unsaid note.number note.block (ap (disk_place (replay opening H)) same ∙ at)
      both true f false p = s
      both false f b p = s

  pub drops : MarksFit opening H contents notes (pushes_dropped m name.object name.page)
  drops = record {
    kept = fit.kept;
    rows = fit.rows;
    free = fit.free;
    there = fit.there;
    early = fit.early;
    blocks = fit.blocks;
    blanks = fit.blanks;
    places = fit.places;
    sent = λ seat note is writes far.
        subst (λ (o : Option Pushing). SentFits opening H (mark_row m note.number note.block) note o) (sym (drop-push m name seat))
        (sent-then note (push_of m seat) (fit.places seat note is writes far) (fit.sent seat note is writes far));
    origin = fit.origin;
    out = λ seat push is. fit.out seat push (left-push m name seat push is).0;
    inside = λ seat push is. fit.inside seat push (left-push m name seat push is).0;
    synced = fit.synced;
    later = λ k b seat n push syn is named. fit.later k b seat n push syn (left-push m name seat push is).0 named;
  }
