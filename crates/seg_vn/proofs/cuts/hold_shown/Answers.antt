use Rattle.std.proofs.Common.{List, Option, ap, ◌∙◌, ◌+◌}
use Rattle.seg_ops.specs.anon_map.Maps.{Map, free_numbers, holders_of}
use Rattle.seg_ops.proofs.anon_map.MapLaws.{with_holders_free}
use Rattle.seg_vn.proofs.cuts.hold_shown.Goals as goal

pub returns-in-Some-clause-free : goal.returns-in-Some-clause-free
returns-in-Some-clause-free g c =
    let maps = c.args.world.now.maps in
    let map = c.in-Some.map in
    ap (λ (ms : List (Option Map)). free_numbers ms) c.hold.ensures ∙ with_holders_free maps map (holders_of maps map + 1) (c.requires.there map c.in-Some.is).0
