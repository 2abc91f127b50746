use Rattle.std.proofs.Common.{ℕ, List, ◌++◌, drop, sym, ◌∙◌, subst, arith}
use Rattle.block_device.specs.DiskSeen.{IsBlock}
use Rattle.block_device.proofs.BlockLemmas.{half_length, torn_is_block}
use Rattle.block_device.proofs.block.Block.write_half.Goals as goal

pub slice_bounds-copy_from_slice-end : goal.slice_bounds-copy_from_slice-end
slice_bounds-copy_from_slice-end c = sym (half_length c.args.self.now.bytes c.args.self.now.full.0)

pub slice_bounds-copy_from_slice-end-2 : goal.slice_bounds-copy_from_slice-end-2
slice_bounds-copy_from_slice-end-2 c = sym (half_length c.args.from.now c.requires)

pub copy_from_slice-requires : goal.copy_from_slice-requires
copy_from_slice-requires c = half_length c.args.self.now.bytes c.args.self.now.full.0 ∙ sym (half_length c.args.from.now c.requires)

pub invariant_of-self : goal.invariant_of-self
invariant_of-self c =
    let P : List ℕ → Type 0 = λ front. IsBlock (front ++ drop 2048 c.args.self.now.bytes) in
    record { full = subst P (sym c.copy_from_slice.ensures.after) (torn_is_block c.args.self.now.bytes c.args.from.now c.args.self.now.full (c.requires, λ at. omega (arith, c.type_inv.from at))) }
