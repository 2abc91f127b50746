use Rattle.std.proofs.Common.{◌≡◌, ◌≢◌, ◌%◌, ℕ, None, sym, ap, ◌∙◌, inl, inr, subst, arith}
use Rattle.std.specs.Prelude.{IsFalse}
use Rattle.seg_ops.specs.page_hash.Names.{find}
use Rattle.seg_ops.specs.page_hash.declared.PageName.{PageName}
use Rattle.seg_ops.specs.page_store.Seen.{residence}
use Rattle.seg_ops.specs.page_store.declared.residence.Residence.TheVariants.{Home, Absent}
use Rattle.seg_ops.proofs.page_store.QueryLemmas.{absent-is}
use Rattle.seg_ops.specs.vnode_files.declared.vnode.FileInfo.{FileInfo}
use Rattle.seg_ops.specs.vnode_files.Files.{FilesSeen, vnode_at}
use Rattle.seg_ops.specs.flat_model.Words.{page}
use Rattle.seg_ops.specs.vm_world.World.{world_seen, file_name, is_unpushed}
use Rattle.seg_ops.proofs.vm_world.PageNames.{file-apart}
use Rattle.seg_map.proofs.Readies.{pushed-wants, unpushed-is}
use Rattle.seg_map.proofs.ready.ready_last.Goals as goal

pub returns-then-blank-clause-fetches : goal.returns-then-blank-clause-fetches
returns-then-blank-clause-fetches g c = λ name gap.
    let w = world_seen c.args.world.now in
    let f = c.args.file in
    let l = c.info.result.now.length in
    let fits = c.requires.fits.1 in
    let is : name ≡ file_name f (page l) = gap.last ∙ ap (λ (k : ℕ). file_name f (page k)) (sym (ap (λ (i : FileInfo). i.length) c.info.ensures.info)) in
    let absent : residence w.store (file_name f (page l)) ≡ Absent = sym c.resident.ensures.residence ∙ c.in-Absent.is in
    inr (
      subst (λ (m : PageName). find w.store.names m ≡ None) (sym is) (absent-is w.store (file_name f (page l)) fits.frames.sound absent),
      ap (is_unpushed w.files w.anon) is ∙ unpushed-is w f (page l) (file-apart w.files f fits.files c.requires.file) ∙ sym c.blank.ensures ∙ c.if-blank.true,
    )

pub returns-in-Home-clause-fetches : goal.returns-in-Home-clause-fetches
returns-in-Home-clause-fetches g c = λ name gap.
    let f = c.args.file in
    let l = c.info.result.now.length in
    let frame = c.in-Home.field-0 in
    let files = ap (λ w. w.files) c.take_back.ensures.rest in
    let is : name ≡ file_name f (page l) =
    gap.last ∙ ap (λ (s : FilesSeen). file_name f (page (vnode_at s f).info.length)) files ∙ ap (λ (k : ℕ). file_name f (page k)) (sym (ap (λ (i : FileInfo). i.length) c.info.ensures.info)) in
    let home : residence c.args.world.now.store (file_name f (page l)) ≡ Home frame = sym c.resident.ensures.residence ∙ c.in-Home.is in
    inl (frame, ap (residence c.take_back.new.world.store) is ∙ c.take_back.ensures.stay (file_name f (page l)) ∙ home, c.take_back.ensures.unlisted frame home)

pub returns-else-blank-clause-fetches : goal.returns-else-blank-clause-fetches
returns-else-blank-clause-fetches g c =
    let w = world_seen c.args.world.now in
    let f = c.args.file in
    let l = c.info.result.now.length in
    let fits = c.requires.fits.1 in
    let e : l ≡ (vnode_at w.files f).info.length = ap (λ (i : FileInfo). i.length) c.info.ensures.info in
    let absent : residence w.store (file_name f (page l)) ≡ Absent = sym c.resident.ensures.residence ∙ c.in-Absent.is in
    let pushed : IsFalse (is_unpushed w.files w.anon (file_name f (page l))) = unpushed-is w f (page l) (file-apart w.files f fits.files c.requires.file) ∙ sym c.blank.ensures ∙ c.if-blank.false in (
      file_name f (page l),
      pushed-wants w f c.args.end (file_name f (page l))
          (record { longer = (let more = c.if-end-length.false in omega (arith, more, e)); tail = subst (λ (k : ℕ). k % 4096 ≢ 0) e c.if-tail-eq0.false; last = ap (λ (k : ℕ). file_name f (page k)) e }) pushed,
      (λ frame home. let z : Absent ≡ Home frame = sym absent ∙ home in cc),
      c.fetch.ensures.fetches,
    )
