use Rattle.volume_files.proofs.Unfailing.{swap-handed as swap-is}
use Rattle.std.proofs.Common.{◌≡◌, ℕ, List, length, map, Option, sym, ap, ◌∙◌, subst, arith}
use Rattle.std.specs.Prelude.{option_map}
use Rattle.volume_files.specs.block_device.DiskSeen.{DiskSeen}
use Rattle.vm_core.specs.page_store.Bays.{AreNumbers, numbers_of, pairs_seen}
use Rattle.vm_core.specs.page_store.New.{AreHome}
use Rattle.vm_core.specs.Setup.{disk_total, FilesOnDisks, SwapServes}
use Rattle.volume_files.specs.vm_script.Rules.{amounts_of}
use Rattle.volume_files.specs.Attached.{attached_seen}
use Rattle.volume_files.specs.stored_files.Written.{numbered_seen}
use Rattle.run_kernel.specs.Played.{HasRoomForPlan}
use Rattle.run_kernel.proofs.StartRules.{right-amounts}
use Rattle.run_kernel.proofs.Starts.{with_number, pairs-are, numbers-are, total-is, swap-serves, frames-enough, are-numbers, its-disks, its-swap, started}
use Rattle.run_kernel.proofs.StartedFiles.{files-lie}
use Rattle.run_kernel.proofs.starting.start.Goals as goal

pub returns-in_default-clause-same : goal.returns-in_default-clause-same
returns-in_default-clause-same g c =
    let m = c.without_memory.ensures in (
      its-disks g.D.Disk.seen c.args.plan.now c.requires.placed.0 c.requires.placed.1 c.args.placed.attached c.args.placed.files c.requires.placed.2
          c.without_memory.result c.number_disks-disks.result.items
          c.number_disks-disks.ensures m.disks (m.swap ∙ c.into_swap-swap.ensures),
      its-swap g.D.Disk.seen c.args.plan.now c.requires.placed.0 c.requires.placed.1 c.args.placed.attached c.args.placed.files c.requires.placed.2
          c.without_memory.result c.number_disks-disks.result.items
          c.number_disks-disks.ensures m.disks (m.swap ∙ c.into_swap-swap.ensures),
    )

pub start-requires-clause-frames : goal.start-requires-clause-frames
start-requires-clause-frames g c =
    let seen = g.D.Disk.seen in
    let at = c.args.placed.attached in
    let total : disk_total c.number_disks-disks.result.items c.into_swap-swap.result ≡ _ = ap
    (λ (l : List (ℕ × _)). disk_total l c.into_swap-swap.result) c.number_disks-disks.ensures
    ∙ ap (λ (o : Option _). disk_total (map with_number at.disks.items) o) c.into_swap-swap.ensures ∙ total-is seen at.disks.items at.swap in
    let enough = frames-enough c.args.plan.now c.requires.placed.0 c.requires.placed.1 (attached_seen seen at) c.args.placed.files c.requires.placed.2 c.requires.rules in
    let frames = ap (λ a. a.frames) (c.amounts_of-amounts.ensures ∙ ap amounts_of c.setup.ensures) in
    omega (arith, total, enough, frames)

pub start-requires-clause-translations : goal.start-requires-clause-translations
start-requires-clause-translations g c =
    let right = (right-amounts c.args.plan.now c.requires.rules).translations in
    let translations = ap (λ a. a.translations) (c.amounts_of-amounts.ensures ∙ ap amounts_of c.setup.ensures) in
    omega (arith, right, translations)

pub start-requires-clause-numbers : goal.start-requires-clause-numbers
start-requires-clause-numbers g c =
    let seen = g.D.Disk.seen in
    let at = c.args.placed.attached in
    subst AreNumbers (sym (ap (λ (l : List (ℕ × _)). numbers_of l) c.number_disks-disks.ensures ∙ numbers-are seen at.disks.items))
    (are-numbers c.args.plan.now c.requires.placed.0 c.requires.placed.1 (attached_seen seen at) c.args.placed.files c.requires.placed.2)

pub start-requires-clause-files : goal.start-requires-clause-files
start-requires-clause-files g c =
    let seen = g.D.Disk.seen in
    let q = c.requires.placed in
    subst (FilesOnDisks c.args.placed.files) (sym (ap (pairs_seen seen) c.number_disks-disks.ensures ∙ pairs-are seen c.args.placed.attached.disks.items))
    (files-lie c.args.plan.now q.0 q.1 (attached_seen seen c.args.placed.attached) c.args.placed.files q.2)

pub start-requires-clause-swap : goal.start-requires-clause-swap
start-requires-clause-swap g c =
    let seen = g.D.Disk.seen in
    let at = c.args.placed.attached in
    subst (λ (n : ℕ). SwapServes n (option_map seen c.into_swap-swap.result)) (sym (ap (λ a. a.slots) (c.amounts_of-amounts.ensures ∙ ap amounts_of c.setup.ensures)))
    (subst (SwapServes (amounts_of c.args.plan.now.setup).slots) (sym (ap (option_map seen) c.into_swap-swap.ensures ∙ swap-is seen at.swap))
    (swap-serves c.args.plan.now c.requires.placed.0 c.requires.placed.1 (attached_seen seen at) c.args.placed.files c.requires.placed.2))

pub returns-in-Ok-start-clause-ok : goal.returns-in-Ok-start-clause-ok
returns-in-Ok-start-clause-ok g c = λ holds files p.
    let seen = g.D.Disk.seen in
    let at = c.args.placed.attached in
    let s = c.in-Ok-start.state in
    let m = c.in-Ok-start.ensures.made in
    let disks : pairs_seen seen c.number_disks-disks.result.items ≡ map (numbered_seen seen) at.disks.items = ap (pairs_seen seen) c.number_disks-disks.ensures ∙ pairs-are seen at.disks.items in
    let swap : option_map seen c.into_swap-swap.result ≡ (attached_seen seen at).swap = ap (option_map seen) c.into_swap-swap.ensures ∙ swap-is seen at.swap in
    let at_home = subst (AreHome s.memory.world.store.bays (map (numbered_seen seen) at.disks.items)) swap
    (subst (λ (l : List (ℕ × DiskSeen)). AreHome s.memory.world.store.bays l (option_map seen c.into_swap-swap.result)) disks m.disks) in
    let seats = m.seats in
    let parents = ap (λ (l : List ℕ). length l) c.kernel_parents.ensures in
    let amounts = c.amounts_of-amounts.ensures ∙ ap amounts_of c.setup.ensures in
    started c.args.plan.now holds files (attached_seen seen at) c.args.placed.files p s c.in-Ok-start.ensures.opening c.in-Ok-start.ensures.fits at_home
    (m.order ∙ ap (λ (l : List (ℕ × _)). numbers_of l) c.number_disks-disks.ensures ∙ numbers-are seen at.disks.items)
    m.files (m.parents ∙ c.in-Ok.ensures.parents) (subst (HasRoomForPlan c.args.plan.now) (sym m.entries) c.in-Ok.ensures.entries_of_plan) (ap (λ (l : List ℕ). length l) m.entries ∙ c.in-Ok.ensures.entries)
    (right-amounts c.args.plan.now c.requires.rules).processes (omega (arith, seats, parents)) (m.frames ∙ ap (λ a. a.frames) amounts) (m.translations ∙ ap (λ a. a.translations) amounts)
    (m.slots ∙ ap (λ a. a.slots) amounts)

pub returns-clause-same : goal.returns-clause-same
returns-clause-same g c =
    let m = c.without_memory-in-Err.ensures in
    let back = c.in-Err.ensures.err in (
      its-disks g.D.Disk.seen c.args.plan.now c.requires.placed.0 c.requires.placed.1 c.args.placed.attached c.args.placed.files c.requires.placed.2
          c.without_memory-in-Err.result c.in-Err.setup.disks.items
          (ap (λ x. x.disks.items) back ∙ c.number_disks-disks.ensures) m.disks (m.swap ∙ ap (λ x. x.swap) back ∙ c.into_swap-swap.ensures),
      its-swap g.D.Disk.seen c.args.plan.now c.requires.placed.0 c.requires.placed.1 c.args.placed.attached c.args.placed.files c.requires.placed.2
          c.without_memory-in-Err.result c.in-Err.setup.disks.items
          (ap (λ x. x.disks.items) back ∙ c.number_disks-disks.ensures) m.disks (m.swap ∙ ap (λ x. x.swap) back ∙ c.into_swap-swap.ensures),
    )
