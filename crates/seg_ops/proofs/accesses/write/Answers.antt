use Rattle.std.proofs.Common.{◌≡◌, ℕ, ◌%◌, List, Option, true, false, sym, ap, ◌∙◌, subst}
use Rattle.vm_world.specs.flat_model.Words.{page, word_bytes}
use Rattle.page_store.specs.Laws.{SameResidence}
use Rattle.page_store.specs.Seen.{StoreSeen}
use Rattle.page_store.specs.Steps.{with_piece}
use Rattle.vm_world.specs.TranslationsFit.{HasWritten}
use Rattle.vm_world.specs.World.{world_seen}
use Rattle.seg_ops.proofs.Hits.{noted-hits, noted-home, noted-unlisted, write-word}
use Rattle.seg_ops.proofs.Modified.{rows-modify}
use Rattle.seg_ops.proofs.Places.{written-store}
use Rattle.seg_ops.proofs.accesses.write.Given.{Over}
use Rattle.seg_ops.proofs.accesses.write.Goals.{After-put_word}
use Rattle.seg_ops.proofs.accesses.write.Goals as goal

pub put_word-requires-clause-home : goal.put_word-requires-clause-home
put_word-requires-clause-home g c =
    let w = world_seen c.args.world.now in (
      (noted-hits w c.requires.fits.0 c.requires.noted.0 (page c.args.addr) c.args.frame true c.requires.fits.1 c.requires.noted.1).name,
      noted-home w c.requires.fits.0 c.requires.noted.0 (page c.args.addr) c.args.frame true c.requires.fits.1 c.requires.noted.1,
    )

pub put_word-requires-clause-unlisted : goal.put_word-requires-clause-unlisted
put_word-requires-clause-unlisted g c = noted-unlisted (world_seen c.args.world.now) c.requires.fits.0 c.requires.noted.0 (page c.args.addr) c.args.frame true c.requires.fits.1 c.requires.noted.1

-- no page moves, and the bytes of frames alone change
stays : (g : Over) (c : After-put_word g) → SameResidence c.args.world.now.store c.put_word.new.store
stays g c =
    let w = world_seen c.args.world.now in
    (c.put_word.ensures.laws (noted-hits w c.requires.fits.0 c.requires.noted.0 (page c.args.addr) c.args.frame true c.requires.fits.1 c.requires.noted.1).name
    (noted-home w c.requires.fits.0 c.requires.noted.0 (page c.args.addr) c.args.frame true c.requires.fits.1 c.requires.noted.1)).residence

bytes-alone : (g : Over) (c : After-put_word g) → c.put_word.new.store ≡ record c.args.world.now.store { frames = c.put_word.new.store.frames }
bytes-alone g c =
    let e = c.put_word.ensures.new in
    e ∙ ap (λ (frames : List (Option (List ℕ))). record c.args.world.now.store { frames = frames }) (sym (ap (λ s. s.frames) e))

pub returns-clause-stay : goal.returns-clause-stay
returns-clause-stay g c = stays g (goal.at.returns-clause-stay g c).After-put_word

pub returns-clause-store : goal.returns-clause-store
returns-clause-store g c = bytes-alone g (goal.at.returns-clause-store g c).After-put_word

pub returns-clause-modified : goal.returns-clause-modified
returns-clause-modified g c =
    let d = (goal.at.returns-clause-modified g c).After-put_word in
    rows-modify (world_seen c.args.world.now) c.put_word.new.store (ap (λ (s : StoreSeen). s.rows) (bytes-alone g d)) (stays g d)

pub returns-clause-writes : goal.returns-clause-writes
returns-clause-writes g c = λ spaces space fits noted.
    let w = world_seen c.args.world.now in
    let h = noted-hits w spaces space (page c.args.addr) c.args.frame true fits noted in
    let wrote : HasWritten w.hat.places noted.entry.frame = subst (λ (j : ℕ). HasWritten w.hat.places j) (sym noted.leads_there) (written-store w.hat.places space (page c.args.addr) c.args.frame noted) in
    let new = c.put_word.new.store in
    let at : ℕ = c.args.addr % 4096 in
    write-word w spaces new space c.args.addr c.args.size c.args.value noted.entry h fits wrote
    (c.put_word.ensures.new ∙ ap (λ (f : ℕ). with_piece w.store f at (word_bytes c.args.size c.args.value) false) (sym noted.leads_there))
    (c.put_word.ensures.laws h.name (noted-home w spaces space (page c.args.addr) c.args.frame true fits noted))
