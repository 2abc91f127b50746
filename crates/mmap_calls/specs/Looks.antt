-- What a page has to do with what is reserved. Inside: no public clause cites this.
use Rattle.std.specs.Prelude.{ℕ, Option}
use Rattle.seg_vn.specs.vm_types.declared.call.Kind.{Kind}
use Rattle.seg_vn.specs.vm_types.declared.call.Object.{Object}
use Rattle.seg_vn.specs.vm_world.Segments.{Spot}

-- Whether a page is private, what it shows, and with which map, if that is a zero object.
abbrev pub kind_and_object : Spot → Kind × (Object × Option ℕ)
kind_and_object x = (x.0.kind, (x.0.object, x.0.shown))
