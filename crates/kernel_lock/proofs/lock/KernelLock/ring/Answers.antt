use Rattle.std.proofs.Common.{rules, ◌+◌, ◌%◌, ◌^◌, ap, ◌∙◌, sym}
use Rattle.kernel_lock.proofs.Keeps.{rings}
use Rattle.kernel_lock.proofs.lock.KernelLock.ring.Goals as goal

pub fetch_add-requires : goal.fetch_add-requires
fetch_add-requires g c =
    (c.requires.lock ∙ sym (ap (λ v. v.lock) c.self.view_is), search rules, rings _ _ _ _ _ _ _ _ _ _ (λ n. (n + 1) % 2 ^ 64) c.requires.word.0)
