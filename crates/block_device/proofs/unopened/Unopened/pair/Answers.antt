use Rattle.std.proofs.Common.{ℕ, ◌≡◌, ◌<◌, ◌^◌, ◌∙◌, ap, sym, subst, Option, Some, None, option_map}
use Rattle.std.specs.Prelude.{IsFalse}
use Rattle.block_device.specs.declared.numbered.NumberedDisk.{NumberedDisk}
use Rattle.block_device.proofs.unopened.Unopened.pair.Goals as goal
use Rattle.block_device.proofs.unopened.Unopened.pair.Goals.{in-Some, in-None}

pub pair-requires : goal.pair-requires
pair-requires g c x is =
    let seen = g.D.Disk.seen in
    let self_is : c.self.inside.disk.disk ≡ c.args.self.disk = ap (λ (d : NumberedDisk g.row.D.Denot). d.disk) c.self.view_is in
    let other_is : option_map (λ (d : NumberedDisk g.row.D.Denot). d.disk) c.args.other ≡ Some x =
    elim c.match-other.branch [
      | in-Some w ↦
          ap (option_map (λ (d : NumberedDisk g.row.D.Denot). d.disk)) w.in-Some.is
          ∙ ap (λ (d : NumberedDisk g.row.D.Denot). Some d.disk) (sym w.other.view_is)
          ∙ sym (ap (λ (p : ℕ × Option g.row.D.Denot). p.1) w.second-is) ∙ is
      | in-None w ↦ let none : c.match-other.second.1 ≡ None = ap (λ (p : ℕ × Option g.row.D.Denot). p.1) w.second-is in absurd (cc (none, is))
    ] in
    subst (λ (d : g.row.D.Denot). ((seen d).size ≡ (seen x).size) × (IsFalse c.args.mirror → (seen d).size < 2 ^ 31)) (sym self_is) (c.requires x other_is)
