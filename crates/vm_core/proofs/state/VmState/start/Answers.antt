use Rattle.fault_entry.proofs.page_store.NewLemmas.{numbers-seen as same-numbers}
use Rattle.std.proofs.Common.{ℕ, Bool, List, length, Option, None, refl, sym, ap, subst, ◌∙◌, arith}
use Rattle.std.proofs.lemmas.List.{length-replicate}
use Rattle.std.specs.Prelude.{option_map, slice_index_or}
use Rattle.std.specs.FinSet as set
use Rattle.fault_entry.specs.anon_slots.Slots.{AnonSlotsSeen}
use Rattle.fault_entry.specs.page_store.Bays.{pairs_seen, AreNumbers}
use Rattle.fault_entry.proofs.vm_world.OpeningFits.{opening_law}
use Rattle.vm_core.specs.Setup.{HaveCounted}
use Rattle.vm_core.specs.State.{born_of}
use Rattle.vm_core.proofs.Starts.{opens, below-eight, files-fit, disks-fit, have-places, kept-start, same-total, at-replicate}
use Rattle.vm_core.proofs.Tops.{born-tops}
use Rattle.vm_core.proofs.state.VmState.start.Goals as goal

pub take_tables-requires-clause-files : goal.take_tables-requires-clause-files
take_tables-requires-clause-files g c =
    let setup = c.args.setup in
    files-fit setup.files (pairs_seen g.D.Disk.seen setup.disks.items) (subst AreNumbers (sym (same-numbers g.D.Disk.seen setup.disks.items)) c.requires.numbers) c.requires.files c.check_files.ensures.few c.check_files.ensures.sound

pub take_tables-requires-clause-numbers : goal.take_tables-requires-clause-numbers
take_tables-requires-clause-numbers g c disk blocks at =
    let setup = c.args.setup in
    below-eight (pairs_seen g.D.Disk.seen setup.disks.items) disk blocks (subst AreNumbers (sym (same-numbers g.D.Disk.seen setup.disks.items)) c.requires.numbers) (c.requires.files.there disk blocks at)

pub invariant_of-result : goal.invariant_of-result
invariant_of-result g c =
    let setup = c.args.setup in
    let total = same-total g.D.Disk.seen setup.disks.items setup.swap in
    let few = c.requires.seats in
    let enough = c.requires.frames in
    let entries = ap (λ (l : List ℕ). length l) c.in-Ok.ensures.entries in (
      kept-start c.in-Ok-new.store c.new-in-Ok-new-2.result c.in-Ok.tables.spaces.spaces setup.parents.items c.in-Ok.tables.ledger.entries setup.frames 0 setup.seats c.in-Ok.tables.syncs (pairs_seen g.D.Disk.seen setup.disks.items) (option_map g.D.Disk.seen setup.swap)
          c.in-Ok-new.ensures.store c.in-Ok.ensures.spaces (omega (arith, total, enough)) c.in-Ok.ensures.syncs (omega (arith, entries, few)) c.new-in-Ok-new-2.ensures,
      have-places setup.parents.items setup.entries.items c.in-Ok.tables.spaces.processes setup.seats c.in-Ok.tables.born.items c.in-Ok.tables.syncs c.in-Ok.ensures.processes c.in-Ok.ensures.born c.in-Ok.ensures.syncs c.requires.entries few,
    )

pub returns-in-Ok-new-clause-opening : goal.returns-in-Ok-new-clause-opening
returns-in-Ok-new-clause-opening g c =
    let setup = c.args.setup in
    let disks = pairs_seen g.D.Disk.seen setup.disks.items in
    let swap = option_map g.D.Disk.seen setup.swap in
    let t = c.in-Ok.ensures in
    let new = c.in-Ok-new.ensures in
    let numbers = subst AreNumbers (sym (same-numbers g.D.Disk.seen setup.disks.items)) c.requires.numbers in
    opens _ setup.frames setup.slots setup.seats setup.translations disks swap new.store new.sound new.still
    (subst (λ (l : List (ℕ × _)). HaveCounted (pairs_seen g.D.Disk.seen l)) c.as_slice.ensures.value c.count_disks.ensures) c.count_swap.ensures t.anon t.slots c.new-in-Ok-new.ensures t.frames t.places
    (files-fit setup.files disks numbers c.requires.files c.check_files.ensures.few c.check_files.ensures.sound)
    (disks-fit c.in-Ok-new.store.bays setup.files disks swap setup.slots new.store.bays numbers c.requires.files c.requires.swap)
    t.spaces (λ p. ap (λ (marks : List Bool). set.contains (born_of marks) p) t.born ∙ born-tops setup.parents.items p) t.history refl (λ f. ap (λ (calls : List (Option ℕ)). slice_index_or calls f None) c.new-in-Ok-new-3.ensures ∙ at-replicate 64 f None) t.syncs refl t.marks

pub returns-in-Ok-new-clause-fits : goal.returns-in-Ok-new-clause-fits
returns-in-Ok-new-clause-fits g c = opening_law.fits _ (returns-in-Ok-new-clause-opening g c)

pub returns-in-Ok-new-clause-made : goal.returns-in-Ok-new-clause-made
returns-in-Ok-new-clause-made g c =
    let setup = c.args.setup in
    let t = c.in-Ok.ensures in
    let new = c.in-Ok-new.ensures.store in
    record {
      frames = ap (λ (l : List (Option (List ℕ))). length l) new.frames ∙ length-replicate setup.frames _;
      clock = new.clock;
      translations = ap (λ (l : List _). length l) t.places ∙ length-replicate setup.translations None;
      slots = ap (λ (s : AnonSlotsSeen). length s.counts) t.anon ∙ length-replicate setup.slots 0;
      disks = new.bays;
      order = new.order ∙ same-numbers g.D.Disk.seen setup.disks.items;
      files = refl;
      parents = refl;
      entries = t.entries;
      seats = ap (λ (l : List _). length l) t.syncs ∙ length-replicate setup.seats None;
      marks = t.marks;
    }
