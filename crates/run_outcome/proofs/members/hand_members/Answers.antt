use Rattle.std.proofs.Common.{rules, ◌∙◌, List, ℕ, ap, refl, subst}
use Rattle.std.specs.List.Sorted.{IsNonDecreasingBy, IsPermutation}
use Rattle.std.proofs.lemmas.List.Sorted.{IsNonDecreasingBy-from_sort_by_key}
use Rattle.run_outcome.specs.MemberRooms.{numbered}
use Rattle.run_outcome.proofs.MemberLists.{parts_of}
use Rattle.run_outcome.proofs.RunsHanded.{hands}
use Rattle.run_outcome.proofs.members.hand_members.Goals as goal

pub returns : goal.returns
returns g c = λ given o text ends asked.
    let over = c.args.outcome in
    let ns = c.args.rooms.numbers.items in
    let sorted = c.sort_unstable_by_key.new.self.items in
    let moved : IsPermutation (numbered ns (parts_of over.disks.items)) sorted =
    subst (λ (l : List (ℕ × _)). IsPermutation l sorted) (c.put_volumes.ensures.items ∙ ap (λ (n : List ℕ). numbered n (parts_of over.disks.items)) c.deref.ensures.value)
    c.sort_unstable_by_key.ensures.permutation in
    let rises : IsNonDecreasingBy (λ (d : ℕ × _). d.0) sorted = IsNonDecreasingBy-from_sort_by_key (λ (d : ℕ × _). d.0) _ c.sort_unstable_by_key.ensures.sorted (λ a r q k. search rules) in
    hands g.D.Disk.seen given o text ns over (record { status = over.status; fault = over.fault; history = over.history; disks = c.without_numbers.result; swap = c.take_swap-swap.result }) sorted
    refl refl refl c.put_volumes.ensures.seen c.take_swap-swap.ensures.seen moved rises c.without_numbers.ensures c.take_swap-swap.ensures.swap ends asked
