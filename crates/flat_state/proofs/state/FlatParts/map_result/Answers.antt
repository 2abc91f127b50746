use Rattle.std.proofs.Common.{◌≡◌, ◌∙◌, ap, sym, ℕ, Ok, true, false, Result}
use Rattle.std.specs.Prelude.{is_some, unwrap_or, nat_le}
use Rattle.std.specs.FinMap as finite
use Rattle.flat_model.specs.vm_types.declared.call.Errno.{Errno}
use Rattle.flat_model.specs.Flat.{Flat, reserved}
use Rattle.flat_model.specs.Mapping.{without_replaced, with_mapping}
use Rattle.flat_state.specs.Cells.{zeros_in}
use Rattle.flat_state.specs.Mapped.{request_of, range_start, with_parts, reserved_by}
use Rattle.flat_state.proofs.Assembled.{Spaces, cleared_alive, placed_for, reserved_is, mapped_unasked, mapped_unplaced, mapped_unbacked, mapped_done}
use Rattle.flat_state.proofs.state.FlatParts.map_result.Goals as goal

pub returns-in-Err : goal.returns-in-Err
returns-in-Err c = sym (mapped_unasked c.args.self.now c.args.process (request_of c.args.map.now) c.in-Err.errno (sym c.request_check.ensures ∙ c.in-Err.is))

pub first_page_of-requires-clause-alive : goal.first_page_of-requires-clause-alive
first_page_of-requires-clause-alive c =
    ap (λ (s : Spaces). is_some (finite.get s c.args.process)) c.in_ok-spaces.ensures ∙ cleared_alive c.args.self.now c.args.process c.args.map.now.place c.pages_in-count.result c.requires.alive

pub with_mapping-requires-clause-alive : goal.with_mapping-requires-clause-alive
with_mapping-requires-clause-alive c =
    ap (λ (s : Spaces). is_some (finite.get s c.args.process)) c.in_ok-spaces.ensures ∙ cleared_alive c.args.self.now c.args.process c.args.map.now.place c.pages_in-count.result c.requires.alive

pub returns-in-Err-first_page_of : goal.returns-in-Err-first_page_of
returns-in-Err-first_page_of c =
    let F = c.args.self.now in
    let p = c.args.process in
    let r = request_of c.args.map.now in
    let at : c.first_page_of.result ≡ placed_for F p r =
    c.first_page_of.ensures.start ∙ ap (λ (s : Spaces). range_start (unwrap_or (finite.get s p) finite.empty) r.place c.pages_in-count.result) c.in_ok-spaces.ensures
    ∙ ap (λ (n : ℕ). range_start (unwrap_or (finite.get (without_replaced F p r.place n).spaces p) finite.empty) r.place n) c.pages_in-count.ensures.pages in
    sym (mapped_unplaced F p r c.in-Err-first_page_of.errno (sym c.request_check.ensures ∙ c.in_default.is) (sym at ∙ c.in-Err-first_page_of.is))

pub returns-then-is_backed : goal.returns-then-is_backed
returns-then-is_backed c =
    let F = c.args.self.now in
    let p = c.args.process in
    let r = request_of c.args.map.now in
    let at : c.first_page_of.result ≡ placed_for F p r =
    c.first_page_of.ensures.start ∙ ap (λ (s : Spaces). range_start (unwrap_or (finite.get s p) finite.empty) r.place c.pages_in-count.result) c.in_ok-spaces.ensures
    ∙ ap (λ (n : ℕ). range_start (unwrap_or (finite.get (without_replaced F p r.place n).spaces p) finite.empty) r.place n) c.pages_in-count.ensures.pages in
    let m = c.in_ok-mapping.mapping in
    let new = with_parts F m.spaces (zeros_in m.zeros) in
    let first = c.in-Ok.first in
    let backed : nat_le (reserved (with_mapping F p r first)) F.slots ≡ true =
    ap (λ (k : ℕ). nat_le k F.slots) (reserved_is F p r first m.spaces (zeros_in m.zeros) c.in_ok-mapping.ensures.flat)
    ∙ ap (λ (G : Flat). nat_le (reserved_by m.spaces (zeros_in m.zeros)) G.slots) (sym c.self.view_is) ∙ sym c.is_backed.ensures ∙ c.if-is_backed.true in
    let start : ◌≡◌ {A = Result (ℕ × Flat) Errno} (Ok (m.first, new)) (Ok (first, new)) = ap (λ (n : ℕ). Ok (n, new)) c.in_ok-mapping.ensures.first in
    start ∙ ap (λ (G : Flat). Ok (first, G)) c.in_ok-mapping.ensures.flat
    ∙ sym (mapped_done F p r first (sym c.request_check.ensures ∙ c.in_default.is) (sym at ∙ c.in-Ok.is) backed)

pub returns-else-is_backed : goal.returns-else-is_backed
returns-else-is_backed c =
    let F = c.args.self.now in
    let p = c.args.process in
    let r = request_of c.args.map.now in
    let at : c.first_page_of.result ≡ placed_for F p r =
    c.first_page_of.ensures.start ∙ ap (λ (s : Spaces). range_start (unwrap_or (finite.get s p) finite.empty) r.place c.pages_in-count.result) c.in_ok-spaces.ensures
    ∙ ap (λ (n : ℕ). range_start (unwrap_or (finite.get (without_replaced F p r.place n).spaces p) finite.empty) r.place n) c.pages_in-count.ensures.pages in
    let m = c.in_ok-mapping.mapping in
    let first = c.in-Ok.first in
    let few : nat_le (reserved (with_mapping F p r first)) F.slots ≡ false =
    ap (λ (k : ℕ). nat_le k F.slots) (reserved_is F p r first m.spaces (zeros_in m.zeros) c.in_ok-mapping.ensures.flat)
    ∙ ap (λ (G : Flat). nat_le (reserved_by m.spaces (zeros_in m.zeros)) G.slots) (sym c.self.view_is) ∙ sym c.is_backed.ensures ∙ c.if-is_backed.false in
    sym (mapped_unbacked F p r first (sym c.request_check.ensures ∙ c.in_default.is) (sym at ∙ c.in-Ok.is) few)
