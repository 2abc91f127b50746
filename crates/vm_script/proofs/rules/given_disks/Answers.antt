use Rattle.std.specs.List.{list_any}
use Rattle.vm_script.specs.Rules.{gives_disk}
use Rattle.vm_script.proofs.GivenDisks.{eight}
use Rattle.vm_script.proofs.rules.given_disks.Goals as goal

pub returns : goal.returns
returns c =
    eight (λ d. list_any (λ l. gives_disk d l.act) c.args.setup.now) _ _ _ _ _ _ _ _ c.give_disk.ensures c.give_disk-2.ensures
    c.give_disk-3.ensures c.give_disk-4.ensures c.give_disk-5.ensures c.give_disk-6.ensures c.give_disk-7.ensures c.give_disk-8.ensures
