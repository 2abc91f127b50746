-- Tables that are written, one disk after another.
use Rattle.std.proofs.Common.{◌≡◌, ℕ, ◌+◌, ◌<◌, ◌≤◌, List, [], length, refl, sym, ap, ◌∙◌, subst, arith, inl, inr}
use Rattle.std.specs.Prelude.{Option, Some, None, IfSome, Ok, slice_get, slice_set, slice_index_or}
use Rattle.std.specs.FinMap as finite
use Rattle.std.proofs.lemmas.Bool.{cases_eq}
use Rattle.std.proofs.lemmas.List.{length-set, get_or-set_same, get_or-set_other}
use Rattle.std.proofs.lemmas.Option.{slice_get_within}
use Rattle.block_device.specs.DiskSeen.{DiskSeen, HasBlocks, failures_told, with_block}
use Rattle.volume_format.specs.vnode_files.Files.{FilesSeen}
use Rattle.volume_format.specs.vnode_files.declared.vnode.FileInfo.{FileInfo}
use Rattle.volume_format.specs.Rules.{reading}
use Rattle.volume_format.specs.Table.{TableSeen}
use Rattle.volume_format.specs.Writing.{encoding}
use Rattle.stored_files.specs.declared.closing.TableStop.{TableStop}
use Rattle.stored_files.specs.declared.closing.TableStop.TheVariants.{Memory, Fault}
use Rattle.stored_files.specs.Closed.{SaysItsTable, SaysTable, SayTables, table_of_disk}
use Rattle.stored_files.specs.Written.{HaveDisks, HaveFirstBlocks, KeepsBlocks, WriteTables, WroteTablesAt, WroteTablesTo, IsTableStop}
use Rattle.stored_files.specs.DiskTables.{IsOneTableStop, TablesSoFar}
use Rattle.stored_files.proofs.Uncut.{counts-put}
use Rattle.stored_files.proofs.EachDisk.{Each, each_same, each_put, each_then, one_at, put_here, put_other, was_before}

pub keeps_same : (d : DiskSeen) → KeepsBlocks d d
keeps_same d = record { size = refl; kind = refl; faults = omega arith; untold = λ none. none; told = λ blocks is. (blocks, is, refl, λ b other. refl) }

pub keeps_then : (a b c : DiskSeen) → KeepsBlocks a b → KeepsBlocks b c → KeepsBlocks a c
keeps_then a b c first second = record {
  size = second.size ∙ first.size;
  kind = second.kind ∙ first.kind;
  faults = omega (arith, first.faults, second.faults);
  untold = λ none. second.untold (first.untold none);
  told = λ blocks is.
      let mid = first.told blocks is in
      let last = second.told mid.0 mid.1 in
      (last.0, last.1, last.2 ∙ mid.2, λ n other. last.3 n other ∙ mid.3 n other);
}

-- block 0 has other bytes
pub keeps_with : (old new : DiskSeen) (bytes : List ℕ) → new.content ≡ with_block old.content 0 bytes → new.size ≡ old.size → new.kind ≡ old.kind → old.faults ≤ new.faults → KeepsBlocks old new
keeps_with old new bytes is size kind faults = record {
  size = size;
  kind = kind;
  faults = faults;
  untold = λ none. is ∙ ap (λ (o : Option (List (List ℕ))). with_block o 0 bytes) none;
  told = λ blocks some. (
    slice_set blocks 0 bytes,
    is ∙ ap (λ (o : Option (List (List ℕ))). with_block o 0 bytes) some,
    length-set blocks 0 bytes,
    λ b other. get_or-set_other blocks 0 b bytes [] other,
  );
}

-- block 0 says the table that was written
pub says_with : (number : ℕ) (infos : List FileInfo) (old new : DiskSeen) (t : TableSeen) (bytes : List ℕ) → HasBlocks old.content old.size → 0 < old.size
    → new.content ≡ with_block old.content 0 bytes → new.size ≡ old.size
    → t ≡ table_of_disk number old.size infos → bytes ≡ encoding t → reading bytes t.blocks ≡ Ok t → SaysItsTable infos (number, new)
says_with number infos old new t bytes blocks some is size table spelled read =
    subst (λ (o : Option (List (List ℕ))). IfSome o (λ bs. SaysTable number new.size infos (slice_index_or bs 0 []))) (sym is) (put old.content blocks)
  where
    put : (o : Option (List (List ℕ))) → HasBlocks o old.size → IfSome (with_block o 0 bytes) (λ bs. SaysTable number new.size infos (slice_index_or bs 0 []))
    put None are = tt
    put (Some bs) are =
        let here : slice_index_or (slice_set bs 0 bytes) 0 [] ≡ bytes = get_or-set_same bs 0 bytes [] (omega (arith, are.0, some)) in
        let now : t ≡ table_of_disk number new.size infos = table ∙ ap (λ n. table_of_disk number n infos) (sym size) in
        let blocks_is : t.blocks ≡ new.size = ap (λ (x : TableSeen). x.blocks) now in
        subst (λ (b : List ℕ). SaysTable number new.size infos b) (sym here) (record {
          spelling = spelled ∙ ap encoding now;
          says = ap (λ n. reading bytes n) (sym blocks_is) ∙ read ∙ ap (λ (x : TableSeen). Ok x) now;
        })

pub writes_from : (old new : List (ℕ × DiskSeen)) → Each KeepsBlocks old new → WriteTables old new
writes_from old new all = record { count = all.count; numbers = all.numbers; each = all.each }

pub each_from : (old new : List (ℕ × DiskSeen)) → WriteTables old new → Each KeepsBlocks old new
each_from old new all = record { count = all.count; numbers = all.numbers; each = all.each }

pub tables_begin : (infos : List FileInfo) (ds : List (ℕ × DiskSeen)) → TablesSoFar infos 0 ds ds
tables_begin infos ds = record { writes = writes_from ds ds (each_same KeepsBlocks keeps_same ds); said = λ i d none at. absurd (omega (arith, none)); behind = λ i low. refl; uncounted = refl }

module _ (infos : List FileInfo) (place : ℕ) (old mid : List (ℕ × DiskSeen)) (d e : ℕ × DiskSeen) (at : slice_get mid place ≡ Some d) (number : e.0 ≡ d.0)
    (keeps : KeepsBlocks d.1 e.1) (so : TablesSoFar infos place old mid) where
  put : Each KeepsBlocks mid (slice_set mid place e)
  put = each_put KeepsBlocks keeps_same mid place d e at number keeps

  pub tables_write : WriteTables old (slice_set mid place e)
  tables_write = writes_from old (slice_set mid place e) (each_then KeepsBlocks keeps_then old mid (slice_set mid place e) (each_from old mid so.writes) put)

  pub tables_step : SaysItsTable infos e → failures_told e.1 ≡ failures_told d.1 → TablesSoFar infos (place + 1) old (slice_set mid place e)
  tables_step says steady = record {
    writes = tables_write;
    said = λ i x low there. elim (cases_eq i place) [
      | inl same ↦ subst (SaysItsTable infos) (one_at (slice_set mid place e) place e x (put_here mid place d e at) (ap (slice_get (slice_set mid place e)) (sym same) ∙ there)) says
      | inr other ↦ so.said i x (omega (arith, low, other)) (sym (put_other mid place i e other) ∙ there)
    ];
    behind = λ i low. put_other mid place i e (λ same. omega (arith, low, same)) ∙ so.behind i (omega (arith, low));
    uncounted = counts-put mid place d e at steady ∙ so.uncounted;
  }

  -- up to this disk, whatever became of it
  tables_to : WroteTablesTo infos place old (slice_set mid place e)
  tables_to = record {
    before = λ i x low there. so.said i x low (sym (put_other mid place i e (λ same. omega (arith, low, same))) ∙ there);
    behind = λ i low. put_other mid place i e (λ same. omega (arith, low, same)) ∙ so.behind i (omega (arith, low));
  }

  -- up to this disk, which is as it was
  tables_at : e ≡ d → WroteTablesAt infos place old (slice_set mid place e)
  tables_at same = record {
    before = tables_to.before;
    behind = λ i low. elim (cases_eq i place) [
      | inl here ↦
          ap (slice_get (slice_set mid place e)) here ∙ put_here mid place d e at ∙ ap (λ (x : ℕ × DiskSeen). Some x) same ∙ sym at ∙ so.behind place (omega arith)
          ∙ ap (slice_get old) (sym here)
      | inr other ↦ put_other mid place i e other ∙ so.behind i low
    ];
    uncounted = counts-put mid place d e at (ap (λ (x : ℕ × DiskSeen). failures_told x.1) same) ∙ so.uncounted;
  }

  pub tables_stop : (stop : TableStop) → IsOneTableStop d e stop → IsTableStop infos old (slice_set mid place e) stop
  tables_stop Memory is = (place, tables_at is)
  tables_stop (Fault f) is =
      let was = was_before KeepsBlocks old mid place d (each_from old mid so.writes) at in (
        record {
          i = place;
          was = was.was;
          is = e;
          there = was.at;
          now = put_here mid place d e at;
          same = number ∙ was.number;
          fault = record {
            number = is.0.disk ∙ sym number;
            risen = omega (arith, is.0.before, is.0.after, is.1);
            since = omega (arith, is.0.before, was.changed.faults);
            last = is.0.after;
          };
        },
        tables_to,
      )

-- what each disk has to have stays
pub size_there : (files : FilesSeen) (old mid : List (ℕ × DiskSeen)) (place : ℕ) (d : ℕ × DiskSeen) → HaveDisks files old → WriteTables old mid
    → slice_get mid place ≡ Some d → finite.get files.disks d.0 ≡ Some d.1.size
size_there files old mid place d have writes at =
    let was = was_before KeepsBlocks old mid place d (each_from old mid writes) at in
    ap (finite.get files.disks) was.number ∙ have.sizes place was.was was.at ∙ ap (λ n. Some n) (sym was.changed.size)

pub some_there : (old mid : List (ℕ × DiskSeen)) (place : ℕ) (d : ℕ × DiskSeen) → HaveFirstBlocks old → WriteTables old mid → slice_get mid place ≡ Some d → 0 < d.1.size
some_there old mid place d first writes at =
    let was = was_before KeepsBlocks old mid place d (each_from old mid writes) at in
    omega (arith, first place was.was was.at, was.changed.size)

pub tables_done : (infos : List FileInfo) (place : ℕ) (old now : List (ℕ × DiskSeen)) → TablesSoFar infos place old now → length now ≤ place → SayTables now infos
tables_done infos place old now so past i d at = so.said i d (omega (arith, slice_get_within now i d at, past)) at
