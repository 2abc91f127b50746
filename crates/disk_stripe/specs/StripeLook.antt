-- What contracts see of the two disks of a stripe. Public clauses cite this.
use Rattle.block_device.specs.DiskSeen.{HasBlocks}
use Rattle.block_device.specs.declared.disk.Disk.{Ghosts}
use Rattle.disk_stripe.specs.StripeBlocks.{stripe_has_blocks}
use Rattle.disk_stripe.specs.StripeSeen.{stripe_seen_by}
use Rattle.disk_stripe.specs.declared.stripe.Stripe.{Stripe}

-- the two disks of a stripe, the one with the even blocks first
abbrev pub stripe_disks : {D : Type 0} {disk : _} → Stripe D disk → D × D
stripe_disks s = (s.a, s.b)

-- What a stripe tells is blocks, where what its disks tell is.
pub blocks_of_stripe : {D : Type 0} {disk : Ghosts D} → ((d : D) → HasBlocks (disk.seen d).content (disk.seen d).size) → (s : Stripe D disk)
    → HasBlocks (stripe_seen_by disk.seen (stripe_disks s)).content (stripe_seen_by disk.seen (stripe_disks s)).size
blocks_of_stripe {disk = disk} law s = stripe_has_blocks (disk.seen s.a).content (disk.seen s.b).content (disk.seen s.a).size (disk.seen s.b).size (law s.a) (law s.b) s.equal
