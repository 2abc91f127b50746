use Rattle.std.proofs.Common.{◌≡◌, ℕ, Bool, Option, Some, sym, ap, ◌∙◌, arith}
use Rattle.page_store.specs.page_hash.Names.{find}
use Rattle.page_store.specs.Bytes.{clip}
use Rattle.page_store.specs.Steps.{home_bytes}
use Rattle.page_store.specs.declared.place.Place.{Place}
use Rattle.page_store.proofs.QueryLemmas.{home-is, home-some}
use Rattle.vm_world.specs.World.{world_seen, world_table}
use Rattle.vm_world.specs.WorldSteps.{cut_page}
use Rattle.seg_ops.proofs.Fills.{held-by}
use Rattle.seg_ops.proofs.KeptBytes.{whole-front}
use Rattle.seg_ops.proofs.sources.front_kept.Goals as goal

pub world_table-valid-requires-clause-exists : goal.world_table-valid-requires-clause-exists
world_table-valid-requires-clause-exists g c = c.requires.fits.1.frames.exist c.args.frame c.args.name (held-by c.args.world.now.store c.args.name c.args.frame c.requires.home)

pub returns-then-is_next-clause-bytes : goal.returns-then-is_next-clause-bytes
returns-then-is_next-clause-bytes g c =
    let w = world_seen c.args.world.now in
    let bytes = home_bytes w.store (find w.store.names c.args.name) in
    ap (λ (p : Place). clip p.valid (home_bytes w.store (Some c.args.frame))) c.world_table-valid.ensures.place
    ∙ ap (λ (o : Option ℕ). clip (world_table w c.args.name).valid (home_bytes w.store o)) (sym (home-is w.store c.args.name c.args.frame c.requires.home).found)
    ∙ sym (ap (λ (b : Bool). cut_page b (world_table w c.args.name).valid bytes) (sym c.is_next.ensures ∙ c.if-is_next.true))

pub returns-then-is_next-clause-front : goal.returns-then-is_next-clause-front
returns-then-is_next-clause-front g c = record { home = home-some c.args.world.now.store c.args.name c.args.frame c.requires.home; valid = c.world_table-valid.ensures.valid }

pub returns-clause-bytes : goal.returns-clause-bytes
returns-clause-bytes g c =
    let w = world_seen c.args.world.now in
    let bytes = home_bytes w.store (find w.store.names c.args.name) in
    whole-front w c.requires.fits.0 c.args.name c.args.frame c.requires.fits.1 c.requires.home
    ∙ sym (ap (λ (b : Bool). cut_page b (world_table w c.args.name).valid bytes) (sym c.is_next.ensures ∙ c.if-is_next.false))

pub returns-clause-front : goal.returns-clause-front
returns-clause-front g c = record { home = home-some c.args.world.now.store c.args.name c.args.frame c.requires.home; valid = omega arith }
