use Rattle.std.proofs.Common.{◌≡◌, true, false, length, map, arith, rules, tests, sym}
use Rattle.std.specs.List.{list_any}
use Rattle.std.specs.Prelude.{nat_eq}
use Rattle.trace_text.specs.OpeningSeen.{head_seen, place_seen}
use Rattle.trace_text.proofs.OpeningRead.{file_refused, file_accepted, no_number, no_disk, both_there}
use Rattle.trace_text.proofs.so_far.OpeningSoFar.take_file.Goals as goal

pub returns-then-head-len-clause-place : goal.returns-then-head-len-clause-place
returns-then-head-len-clause-place c =
    let w = c.args.self in
    let head = c.args.head in
    let files = c.in-Some.files in
    let at = rw c.in-Some.is at c.in_ok-files.ensures.place (map (λ d. d.0) w.disks.items) in
    let apart : head.file ≡ length files.items → ⊥ = λ is. omega (arith, is, files.ok.0) in
    sym (file_refused (place_seen w) (head_seen head) (map (λ d. d.0) w.disks.items) (length files.items) at
    (no_number head.file (length files.items) head.disk w.disks.items apart))

pub returns-then-not-has_disk-clause-place : goal.returns-then-not-has_disk-clause-place
returns-then-not-has_disk-clause-place c =
    let w = c.args.self in
    let head = c.args.head in
    let files = c.in-Some.files in
    let at = rw c.in-Some.is at c.in_ok-files.ensures.place (map (λ d. d.0) w.disks.items) in
    let none : list_any (λ d. nat_eq head.disk d.0) w.disks.items ≡ false = first_of (cc, search (rules, tests)) in
    sym (file_refused (place_seen w) (head_seen head) (map (λ d. d.0) w.disks.items) (length files.items) at
    (no_disk head.file (length files.items) head.disk w.disks.items none))

pub returns-clause-place : goal.returns-clause-place
returns-clause-place c =
    let w = c.args.self in
    let head = c.args.head in
    let files = c.in-Some.files in
    let at = rw c.in-Some.is at c.in_ok-files.ensures.place (map (λ d. d.0) w.disks.items) in
    let is : head.file ≡ length files.items = omega (arith, files.ok.0) in
    let some : list_any (λ d. nat_eq head.disk d.0) w.disks.items ≡ true = first_of (cc, search (rules, tests)) in
    file_accepted (place_seen w) head (map (λ d. d.0) w.disks.items) (length files.items) c.new_file.result at
    (both_there head.file (length files.items) head.disk w.disks.items is some) c.new_file.ensures.head c.new_file.ensures.bytes
