use Rattle.std.proofs.Common.{ℕ, Option, sym, ap, ◌∙◌, subst, List}
use Rattle.std.specs.Prelude.{IsSome, option_map}
use Rattle.seg_ops.specs.hat_layer.Pool.{translation_at, told_of}
use Rattle.seg_ops.specs.page_hash.Names.{is_name, name_at}
use Rattle.seg_ops.specs.page_store.Steps.{next_name}
use Rattle.seg_ops.specs.vm_world.StateSteps.{PendsTails}
use Rattle.seg_ops.specs.flat_model.Words.{Page}
use Rattle.seg_ops.specs.vm_world.Words.{IsKnown}
use Rattle.seg_ops.specs.vm_world.World.{World, world_seen}
use Rattle.seg_ops.specs.Copies.{HasBytes, IsKnownLater, bytes_kept}
use Rattle.seg_ops.proofs.Modified.{modifies-then}
use Rattle.seg_vn.proofs.CopySteps.{freed-frames, gathered-frames, gathered-next, gathered-same, gathered-later, gathered-kept}
use Rattle.home_pages.proofs.Takes.{takes-later, takes-next}
use Rattle.seg_vn.proofs.copy_faults.clear_way.Goals as goal
use Rattle.home_pages.proofs.Replacements.{cut-frame}
use Rattle.seg_ops.specs.page_hash.declared.PageName.{PageName}

pub free_next-requires : goal.free_next-requires
free_next-requires g c = record { fits = (c.requires.fits.0, (c.drop_translation.ensures.keeps c.requires.fits.0 c.requires.fits.1).memory) }

pub returns-clause-available : goal.returns-clause-available
returns-clause-available g c =
    let s = c.args.world.now.store in
    subst (λ (o : Option ℕ). IsSome o) (sym (c.free_next.ensures.same ∙ gathered-next s c.drop_translation.new.world.store (option_map told_of (translation_at c.args.world.now.hat.places c.args.space c.args.page)) c.drop_translation.ensures.store)) c.requires.available

pub returns-clause-gone : goal.returns-clause-gone
returns-clause-gone g c = ap (λ v. translation_at v.hat.places c.args.space c.args.page) c.free_next.ensures.rest ∙ c.drop_translation.ensures.gone

pub returns-clause-frames : goal.returns-clause-frames
returns-clause-frames g c =
    let mid = c.drop_translation.new.world.store in
    freed-frames mid c.free_next.new.world.store (next_name mid) c.free_next.ensures.store
    ∙ gathered-frames c.args.world.now.store mid (option_map told_of (translation_at c.args.world.now.hat.places c.args.space c.args.page)) c.drop_translation.ensures.store

pub returns-clause-absent : goal.returns-clause-absent
returns-clause-absent g c = λ page none. c.free_next.ensures.absent page (c.drop_translation.ensures.stay page ∙ none)

pub returns-clause-takes : goal.returns-clause-takes
returns-clause-takes g c = λ spaces fits.
    let old = world_seen c.args.world.now in
    let mid = world_seen c.drop_translation.new.world in
    let new = world_seen c.free_next.new.world in
    let keeps = c.drop_translation.ensures.keeps spaces fits in
    let pends = subst (λ (k : ℕ). PendsTails mid (is_name (next_name mid.store)) k c.free_next.new.world.pending) (ap (λ v. v.pending) c.drop_translation.ensures.rest) c.free_next.ensures.taken.tails in
    let names = gathered-same old.store mid.store (option_map told_of (translation_at c.args.world.now.hat.places c.args.space c.args.page)) c.drop_translation.ensures.store in
    record {
      takes = takes-later old mid new spaces c.args.world.now.pending c.free_next.new.world.pending fits keeps names (ap (λ v. v.files) c.drop_translation.ensures.rest)
          (takes-next mid new spaces c.args.world.now.pending c.free_next.new.world.pending (c.free_next.ensures.pages spaces keeps.memory) pends c.free_next.ensures.taken.lost);
      next = λ name cut.
          let h = cut-frame mid.store name cut in
          (h.0, c.free_next.ensures.same ∙ h.1, ap (λ (ns : List (Option PageName)). name_at ns h.0) (sym names) ∙ h.2);
    }

pub returns-clause-modified : goal.returns-clause-modified
returns-clause-modified g c = modifies-then (world_seen c.args.world.now) (world_seen c.drop_translation.new.world) (world_seen c.free_next.new.world) c.drop_translation.ensures.modified c.free_next.ensures.modified

pub returns-clause-bytes : goal.returns-clause-bytes
returns-clause-bytes g c = λ known name frame home later.
    let old = world_seen c.args.world.now in
    let drop = option_map told_of (translation_at c.args.world.now.hat.places c.args.space c.args.page) in
    let seen = ap world_seen c.drop_translation.ensures.rest in
    let mid = c.drop_translation.new.world in
    let there = subst (λ (v : World). IsKnownLater v name frame) (sym seen) (gathered-later old mid.store mid.hat drop c.drop_translation.ensures.store name frame later) in
    let is_known : IsKnown mid = (known.0, (c.drop_translation.ensures.keeps c.requires.fits.0 c.requires.fits.1).notes known.0 tt known.1) in
    subst (λ (b : Page). HasBytes (world_seen c.free_next.new.world) name b) (ap (λ (v : World). bytes_kept v name) seen ∙ gathered-kept old mid.store mid.hat drop c.drop_translation.ensures.store name)
    (c.free_next.ensures.bytes is_known name frame (c.drop_translation.ensures.stay name ∙ home) there)
