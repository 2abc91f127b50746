-- Segments as a driver keeps them. Inside: no public clause cites this, only a model's invariant and the codes.
use Rattle.std.specs.Prelude.{ℕ, ◌+◌, ◌<◌, ◌^◌, Option, refl}
use Rattle.std.specs.Coded.{Coded, code_by, coded×, coded_ℕ, coded_option}
use Rattle.seg_ops.specs.vm_types.declared.prot.Prot.{Prot}
use Rattle.seg_ops.specs.vm_types.declared.call.Kind.{Kind}
use Rattle.seg_ops.specs.vm_types.declared.call.Object.{Object}
use Rattle.seg_ops.specs.vm_types.contracts.prot.Prot as prot
use Rattle.seg_ops.specs.vm_types.contracts.call.Kind as kind
use Rattle.seg_ops.specs.vm_types.contracts.call.Object as object
use Rattle.seg_ops.specs.vm_world.declared.segment.Segment.{Segment}

-- A segment has a page, and its pages have numbers in its object.
pub record IsSoundSegment (s : Segment) : Type 0 where
  pub some : 0 < s.pages
  pub end : s.index + s.pages < 2 ^ 32

-- A segment as data, so that a model may have it as its value.
abbrev pub segment_code : Coded Segment
segment_code =
    code_by (ℕ × (Prot × (Prot × (Kind × (Object × (ℕ × (Option ℕ × Option ℕ)))))))
    (coded× coded_ℕ (coded× prot.the_row.coded (coded× prot.the_row.coded (coded× kind.the_row.coded (coded× object.the_row.coded (coded× coded_ℕ (coded× (coded_option coded_ℕ) (coded_option coded_ℕ))))))))
    (λ s. (s.pages, (s.prot, (s.max, (s.kind, (s.object, (s.index, (s.own, s.shown))))))))
    (λ p. record { pages = p.0; prot = p.1.0; max = p.1.1.0; kind = p.1.1.1.0; object = p.1.1.1.1.0; index = p.1.1.1.1.1.0; own = p.1.1.1.1.1.1.0; shown = p.1.1.1.1.1.1.1 }) (λ _. refl)
