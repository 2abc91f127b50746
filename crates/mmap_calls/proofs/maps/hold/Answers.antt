use Rattle.std.proofs.Common.{List, Option, ap, ◌∙◌, ◌+◌}
use Rattle.seg_vn.specs.anon_map.Maps.{Map, free_numbers, holders_of}
use Rattle.seg_vn.proofs.anon_map.MapLaws.{with_holders_free}
use Rattle.mmap_calls.proofs.maps.hold.Goals as goal

pub returns-in-Some-clause-free : goal.returns-in-Some-clause-free
returns-in-Some-clause-free g c =
    let maps = c.args.world.now.maps in
    let number = c.in-Some.number in
    ap (λ (ms : List (Option Map)). free_numbers ms) c.hold.ensures ∙ with_holders_free maps number (holders_of maps number + 1) (c.requires.there number c.in-Some.is).0
