-- What holds of files holds with those of the lines behind them.
use Rattle.vm_report.proofs.vm_script.Scripts.{not_true as not-is}
use Rattle.vm_report.proofs.vm_script.Places.{some_none as none-or-some}
use Rattle.std.specs.Prelude.{ℕ, zero, suc, ◌≡◌, ◌<◌, ◌≤◌, ◌+◌, ◌-◌, ◌==◌, not, nat_le, nat_lt, Bool, true, false, List, [], ◌∷◌, ◌++◌, length, Option}
use Rattle.std.specs.Prelude.{Some, None, IfOk, IfSome, Result, Ok, Err, if◌then◌else◌, filter}
use Rattle.std.specs.List.{list_any, list_all, range_with_len, AllByRecursion, find, flat_map}
use Rattle.std.specs.Str.{bytes_eq}
use Rattle.std.proofs.Common.{ap, ◌∙◌, sym, subst, refl, arith, inl, inr, cond}
use Rattle.std.proofs.lemmas.Bool.{and_parts, and_from, eq-eqb, ne_eqb, cases_eq, leb-false, ltb-true, or_parts as or_none}
use Rattle.std.proofs.lemmas.List.{append_assoc}
use Rattle.std.proofs.lemmas.List.Folds.{list_any-append}
use Rattle.vm_report.specs.flat_model.Words.{pages_in}
use Rattle.volume_format.specs.vnode_files.declared.extent.Extent.{Extent}
use Rattle.volume_format.specs.vnode_files.declared.vnode.FileInfo.{FileInfo}
use Rattle.volume_format.specs.vnode_files.Grow.{has_block, is_free}
use Rattle.volume_format.proofs.vnode_files.FindLemmas.{find-passes}
use Rattle.volume_format.specs.Table.{front_block}
use Rattle.vm_report.specs.vm_script.declared.plan.SetupAct.{SetupAct}
use Rattle.vm_report.specs.vm_script.declared.plan.SetupAct.TheVariants as given
use Rattle.vm_report.specs.vm_script.declared.plan.SetupLine.{SetupLine}
use Rattle.volume_files.specs.declared.stops.Refusal.{Refusal}
use Rattle.volume_files.specs.declared.stops.Refusal.TheVariants as refusal
use Rattle.volume_files.specs.Opened.{OpenedFile, infos_of, names_of, new_file, extents_of_disk, is_free_run, place_for, with_placed, with_line_file, with_line_files}
use Rattle.stored_files.specs.Closed.{stored_bytes}
use Rattle.volume_files.specs.Placing.{with_file, with_file_pages, with_block_pages, filled_pages}
use Rattle.volume_files.proofs.PageLemmas.{set_pages, with_pages-told, with_pages-untold, stored_beside, stored_written, length-filled, length-set_pages}

pub err-ok : {A E : Type 0} (e : E) (x : A) → ◌≡◌ {A = Result A E} (Err e) (Ok x) → ⊥
err-ok e x is = cc

pub same_Ok : {A E : Type 0} (x y : A) → ◌≡◌ {A = Result A E} (Ok x) (Ok y) → x ≡ y
same_Ok x y is = cc

-- A set-up line's file may be added behind these files, from this block on.
pub record CanAdd (sizes : ℕ → ℕ) (files : List OpenedFile) (name : List ℕ) (disk pages start : ℕ) : Type 0 where
  pub few : length files < 64
  pub new : list_any (bytes_eq name) (names_of files) ≡ false
  pub place : place_for (sizes disk) (extents_of_disk disk (infos_of files)) pages ≡ Some start

-- What is kept by each file that a line adds, where of each line L holds.
abbrev pub KeptByLines : (ℕ → ℕ) → (SetupAct → Type 0) → (List OpenedFile → Type 0) → Type 0
KeptByLines sizes L P =
    (files : List OpenedFile) (name : List ℕ) (writable : Bool) (disk pages : ℕ) (bytes : List ℕ) (start : ℕ)
    → L (given.File name writable disk pages bytes) → CanAdd sizes files name disk pages start
    → P files → P (files ++ new_file name writable disk pages bytes start ∷ [])

module _ (sizes : ℕ → ℕ) (L : SetupAct → Type 0) (P : List OpenedFile → Type 0) (keep : KeptByLines sizes L P) where
  placed_keeps : (files : List OpenedFile) (name : List ℕ) (writable : Bool) (disk pages : ℕ) (bytes : List ℕ) (place : Option ℕ)
      → L (given.File name writable disk pages bytes) → length files < 64 → list_any (bytes_eq name) (names_of files) ≡ false
      → place_for (sizes disk) (extents_of_disk disk (infos_of files)) pages ≡ place → P files
      → IfOk (with_placed files (new_file name writable disk pages bytes) place) P
  placed_keeps files name writable disk pages bytes None law few new is p = tt
  placed_keeps files name writable disk pages bytes (Some start) law few new is p =
      keep files name writable disk pages bytes start law (record { few = few; new = new; place = is }) p

  file_keeps : (files : List OpenedFile) (name : List ℕ) (writable : Bool) (disk pages : ℕ) (bytes : List ℕ)
      → L (given.File name writable disk pages bytes) → P files → IfOk (with_line_file sizes files (given.File name writable disk pages bytes)) P
  file_keeps files name writable disk pages bytes law p =
      let place = place_for (sizes disk) (extents_of_disk disk (infos_of files)) pages in
      let placed = with_placed files (new_file name writable disk pages bytes) place in
      elim (nat_le 64 (length files)) as (λ t. nat_le 64 (length files) ≡ t
      → IfOk (if t then Err (refusal.Rule 10) else if list_any (bytes_eq name) (names_of files) then Err (refusal.Rule 11) else placed) P) [
        | true ↦ λ many. tt
        | false ↦ λ few. elim (list_any (bytes_eq name) (names_of files)) as (λ t. list_any (bytes_eq name) (names_of files) ≡ t
            → IfOk (if t then Err (refusal.Rule 11) else placed) P) [
              | true ↦ λ old. tt
              | false ↦ λ new. placed_keeps files name writable disk pages bytes place law (leb-false 64 (length files) few) new refl p
            ] refl
      ] refl

  act_keeps : (files : List OpenedFile) (act : SetupAct) → L act → P files → IfOk (with_line_file sizes files act) P
  act_keeps files (given.Frames n) law p = p
  act_keeps files (given.Swap n) law p = p
  act_keeps files (given.Translations n) law p = p
  act_keeps files (given.Join disk other mirror) law p = p
  act_keeps files (given.Blank disk blocks) law p = p
  act_keeps files (given.Path disk path) law p = p
  act_keeps files (given.File name writable disk pages bytes) law p = file_keeps files name writable disk pages bytes law p

  -- so it holds of all files in the end
  pub lines_keep : (setup : List SetupLine) (before after : List OpenedFile) → AllByRecursion (λ l. L l.act) setup
      → with_line_files sizes (Ok before) setup ≡ Ok after → P before → P after
  lines_keep [] before after laws is p = subst P (same_Ok before after is) p
  lines_keep (l ∷ setup) before after laws is p =
      elim (with_line_file sizes before l.act) as (λ (r : Result (List OpenedFile) Refusal). IfOk r P → with_line_files sizes r setup ≡ Ok after → P after) [
        | Ok files ↦ λ q same. lines_keep setup files after laws.1 same q
        | Err e ↦ λ q same. absurd (err-ok e after same)
      ] (act_keeps before l.act laws.0 p) is

-- a test that a run passes, at one of its blocks; and one that passes at each
pub run_at : (p : ℕ → Bool) (a n : ℕ) → list_all p (range_with_len a n) ≡ true → (b : ℕ) → a ≤ b → b < a + n → p b ≡ true
run_at p a zero all b low high = absurd (omega (arith, low, high))
run_at p a (suc n) all b low high =
    let parts : (p a ≡ true) × (list_all p (range_with_len (a + 1) n) ≡ true) = and_parts (p a) (list_all p (range_with_len (a + 1) n)) all in
    elim (cases_eq a b) [
      | inl e ↦ ap p (sym e) ∙ parts.0
      | inr ne ↦ run_at p (a + 1) n parts.1 b (omega (arith, low, ne)) (omega (arith, high))
    ]

pub run_from : (p : ℕ → Bool) (a n : ℕ) → ((b : ℕ) → a ≤ b → b < a + n → p b ≡ true) → list_all p (range_with_len a n) ≡ true
run_from p a zero each = refl
run_from p a (suc n) each =
    and_from (p a) (list_all p (range_with_len (a + 1) n)) (each a (omega arith) (omega arith)) (run_from p (a + 1) n (λ b low high. each b (omega (arith, low)) (omega (arith, high))))

-- a place that was found: its blocks are free
pub place-run : (blocks : ℕ) (extents : List Extent) (pages start : ℕ) → place_for blocks extents pages ≡ Some start → is_free_run blocks extents pages start ≡ true
place-run blocks extents pages start is =
    elim (nat_lt (length extents) 252) as (λ (t : Bool).
    (if t then find (is_free_run blocks extents pages) (range_with_len 1 (blocks - 1)) else None) ≡ Some start → is_free_run blocks extents pages start ≡ true) [
      | true ↦ λ found. find-passes (is_free_run blocks extents pages) (range_with_len 1 (blocks - 1)) start found
      | false ↦ λ none. absurd (none-or-some start none)
    ] is

pub run-free : (blocks : ℕ) (extents : List Extent) (pages start : ℕ) → is_free_run blocks extents pages start ≡ true → (b : ℕ) → start ≤ b → b < start + pages
    → (b < blocks) × (list_any (has_block b) extents ≡ false)
run-free blocks extents pages start run b low high =
    let free = and_parts (nat_lt b blocks) (not (list_any (has_block b) extents)) (run_at (is_free blocks extents) start pages run b low high) in
    (ltb-true b blocks free.0, not-is (list_any (has_block b) extents) free.1)

-- all, of one more
pub all_push : {X : Type 0} (P : X → Type 0) (xs : List X) (x : X) → AllByRecursion P xs → P x → AllByRecursion P (xs ++ x ∷ [])
all_push P [] x all p = (p, tt)
all_push P (y ∷ ys) x all p = (all.0, all_push P ys x all.1 p)

pub all_more : {X : Type 0} (P Q R : X → Type 0) (xs : List X) → ((x : X) → P x → Q x → R x) → AllByRecursion P xs → AllByRecursion Q xs → AllByRecursion R xs
all_more P Q R [] step p q = tt
all_more P Q R (x ∷ xs) step p q = (step x p.0 q.0, all_more P Q R xs step p.1 q.1)

-- a block that is in none of a disk's extents is in none of a file's of that disk
pub each_free : (d : ℕ) (files : List OpenedFile) (b : ℕ) → list_any (has_block b) (extents_of_disk d (infos_of files)) ≡ false
    → AllByRecursion (λ g. g.info.disk ≡ d → list_any (has_block b) g.info.extents ≡ false) files
each_free d [] b none = tt
each_free d (f ∷ files) b none =
    let rest = filter (λ (i : FileInfo). i.disk == d) (infos_of files) in
    elim (cases_eq f.info.disk d) [
      | inl e ↦
          let on : (f.info.disk == d) ≡ true = eq-eqb f.info.disk d e in
          let split : list_any (has_block b) (f.info.extents ++ flat_map (λ (i : FileInfo). i.extents) rest) ≡ false =
          ap (λ (t : Bool). list_any (has_block b) (flat_map (λ (i : FileInfo). i.extents) (cond t (f.info ∷ rest) rest))) (sym on) ∙ none in
          let parts : (list_any (has_block b) f.info.extents ≡ false) × (list_any (has_block b) (flat_map (λ (i : FileInfo). i.extents) rest) ≡ false) =
          or_none (list_any (has_block b) f.info.extents) (list_any (has_block b) (flat_map (λ (i : FileInfo). i.extents) rest))
          (sym (list_any-append (has_block b) f.info.extents (flat_map (λ (i : FileInfo). i.extents) rest)) ∙ split) in
          (λ same. parts.0, each_free d files b parts.1)
      | inr ne ↦
          let off : (f.info.disk == d) ≡ false = ne_eqb f.info.disk d ne in
          let other : list_any (has_block b) (flat_map (λ (i : FileInfo). i.extents) rest) ≡ false =
          ap (λ (t : Bool). list_any (has_block b) (flat_map (λ (i : FileInfo). i.extents) (cond t (f.info ∷ rest) rest))) (sym off) ∙ none in
          (λ same. absurd (ne same), each_free d files b other)
    ]

-- A disk of this number and content has a file's bytes, where it tells and the file lies there.
abbrev pub Stored : ℕ → Option (List (List ℕ)) → OpenedFile → Type 0
Stored n content f = f.info.disk ≡ n → IfSome content (λ blocks. stored_bytes blocks f.info ≡ f.bytes)

-- What a file's pages make of a disk's content: it has them, where the file lies there; else it is as it was.
pub with_file-on : (n : ℕ) (content : Option (List (List ℕ))) (info : FileInfo) (bytes : List ℕ) → info.disk ≡ n
    → with_file n content info bytes ≡ with_block_pages content (front_block info.extents) (filled_pages bytes)
with_file-on n content info bytes e = ap (λ (t : Bool). if t then with_block_pages content (front_block info.extents) (filled_pages bytes) else content) (eq-eqb info.disk n e)

pub with_file-off : (n : ℕ) (content : Option (List (List ℕ))) (info : FileInfo) (bytes : List ℕ) → (info.disk ≡ n → ⊥) → with_file n content info bytes ≡ content
with_file-off n content info bytes ne = ap (λ (t : Bool). if t then with_block_pages content (front_block info.extents) (filled_pages bytes) else content) (ne_eqb info.disk n ne)

-- content where it is told
if_told : (P : List (List ℕ) → Type 0) (o : Option (List (List ℕ))) (start : ℕ) (ps : List (List ℕ))
    → ((blocks : List (List ℕ)) → o ≡ Some blocks → P (set_pages blocks start ps)) → IfSome (with_block_pages o start ps) P
if_told P None start ps h = subst (λ (o : Option (List (List ℕ))). IfSome o P) (sym (with_pages-untold start ps)) tt
if_told P (Some blocks) start ps h = subst (λ (o : Option (List (List ℕ))). IfSome o P) (sym (with_pages-told blocks start ps)) (h blocks refl)

at_told : (P : List (List ℕ) → Type 0) (o : Option (List (List ℕ))) (blocks : List (List ℕ)) → o ≡ Some blocks → IfSome o P → P blocks
at_told P o blocks is h = subst (λ (q : Option (List (List ℕ))). IfSome q P) is h

all_each : {X : Type 0} (Lo : ℕ → Type 0) (Q : ℕ → X → Type 0) (xs : List X) → ((b : ℕ) → Lo b → AllByRecursion (Q b) xs) → AllByRecursion (λ x. (b : ℕ) → Lo b → Q b x) xs
all_each Lo Q [] h = tt
all_each Lo Q (x ∷ xs) h = (λ b lo. (h b lo).0, all_each Lo Q xs (λ b lo. (h b lo).1))

-- the pages of one more file are written: the files so far have their bytes, and so has it
module _ (sizes : ℕ → ℕ) (n size : ℕ) (sized : sizes n ≡ size) where
  pub stored_step : (content : Option (List (List ℕ))) (files : List OpenedFile) (name : List ℕ) (writable : Bool) (disk pages : ℕ) (bytes : List ℕ) (start : ℕ)
      → 1 ≤ pages → pages_in (length bytes) ≤ pages → CanAdd sizes files name disk pages start
      → IfSome content (λ blocks. length blocks ≡ size) → AllByRecursion (Stored n content) files
      → IfSome (with_file n content (new_file name writable disk pages bytes start).info bytes) (λ blocks. length blocks ≡ size)
      × AllByRecursion (Stored n (with_file n content (new_file name writable disk pages bytes start).info bytes)) (files ++ new_file name writable disk pages bytes start ∷ [])
  stored_step content files name writable disk pages bytes start some fits can long all =
      let f = new_file name writable disk pages bytes start in
      let ps = filled_pages bytes in
      let used = extents_of_disk disk (infos_of files) in
      let run : is_free_run (sizes disk) used pages start ≡ true = place-run (sizes disk) used pages start can.place in
      let now = with_file n content f.info bytes in
      let last : start + pages - 1 < sizes disk = (run-free (sizes disk) used pages start run (start + pages - 1) (omega (arith, some)) (omega (arith, some))).0 in
      let beside = all_each (λ b. (start ≤ b) × (b < start + pages)) (λ b g. g.info.disk ≡ disk → list_any (has_block b) g.info.extents ≡ false) files
      (λ b in_run. each_free disk files b (run-free (sizes disk) used pages start run b in_run.0 in_run.1).1) in
      elim (cases_eq disk n) [
        | inl e ↦
            let is : now ≡ with_block_pages content start ps = with_file-on n content f.info bytes e in
            let whole : (blocks : List (List ℕ)) → content ≡ Some blocks → length blocks ≡ size = λ blocks told. at_told (λ bs. length bs ≡ size) content blocks told long in (
              subst (λ (o : Option (List (List ℕ))). IfSome o (λ blocks. length blocks ≡ size)) (sym is)
                  (if_told (λ bs. length bs ≡ size) content start ps (λ blocks told. length-set_pages blocks start ps ∙ whole blocks told)),
              all_push (Stored n now) files f
                  (all_more (Stored n content) (λ g. (b : ℕ) → (start ≤ b) × (b < start + pages) → g.info.disk ≡ disk → list_any
                  (has_block b) g.info.extents ≡ false) (Stored n now) files (λ g st free on.
                  subst (λ (o : Option (List (List ℕ))). IfSome o (λ blocks. stored_bytes blocks g.info ≡ g.bytes)) (sym is)
                  (if_told (λ bs. stored_bytes bs g.info ≡ g.bytes) content start ps (λ blocks told.
                  stored_beside blocks start ps g.info (λ b low high. free b (low, omega (arith, high, fits, length-filled bytes)) (on ∙ sym e))
                  ∙ at_told (λ bs. stored_bytes bs g.info ≡ g.bytes) content blocks told (st on)))) all beside)
                  (λ on. subst (λ (o : Option (List (List ℕ))). IfSome o (λ blocks. stored_bytes blocks f.info ≡ f.bytes)) (sym is)
                  (if_told (λ bs. stored_bytes bs f.info ≡ f.bytes) content start ps (λ blocks told.
                  let same : sizes disk ≡ size = ap sizes e ∙ sized in
                  stored_written blocks start pages bytes name disk writable fits (omega (arith, last, same, whole blocks told))))),
            )
        | inr ne ↦
            let is : now ≡ content = with_file-off n content f.info bytes ne in (
              subst (λ (o : Option (List (List ℕ))). IfSome o (λ blocks. length blocks ≡ size)) (sym is) long,
              all_push (Stored n now) files f
                  (subst (λ (o : Option (List (List ℕ))). AllByRecursion (Stored n o) files) (sym is) all)
                  (λ on. absurd (ne on)),
            )
      ]

with_file_pages-push : (n : ℕ) (content : Option (List (List ℕ))) (fs : List OpenedFile) (f : OpenedFile)
    → with_file_pages n content (fs ++ f ∷ []) ≡ with_file n (with_file_pages n content fs) f.info f.bytes
with_file_pages-push n content [] f = refl
with_file_pages-push n content (g ∷ fs) f = with_file_pages-push n (with_file n content g.info g.bytes) fs f

-- A file line's pages hold its bytes.
abbrev pub HoldsItsBytes : SetupAct → Type 0
HoldsItsBytes (given.File name writable disk pages bytes) = (1 ≤ pages) × (pages_in (length bytes) ≤ pages)
HoldsItsBytes a = Unit {0}

-- The files behind some, with what the disk has after their pages were written.
pub record StoredBehind (n size : ℕ) (content : Option (List (List ℕ))) (before files : List OpenedFile) : Type 0 where
  pub new : List OpenedFile
  pub behind : files ≡ before ++ new
  pub long : IfSome (with_file_pages n content new) (λ blocks. length blocks ≡ size)
  pub all : AllByRecursion (Stored n (with_file_pages n content new)) files

pub stored_kept : (sizes : ℕ → ℕ) (n size : ℕ) → sizes n ≡ size → (content : Option (List (List ℕ))) (before : List OpenedFile)
    → KeptByLines sizes HoldsItsBytes (StoredBehind n size content before)
stored_kept sizes n size sized content before files name writable disk pages bytes start law can p =
    let f = new_file name writable disk pages bytes start in
    let done = stored_step sizes n size sized (with_file_pages n content p.new) files name writable disk pages bytes start law.0 law.1 can p.long p.all in
    let pushed = with_file_pages-push n content p.new f in
    record {
      new = p.new ++ f ∷ [];
      behind = ap (λ (xs : List OpenedFile). xs ++ f ∷ []) p.behind ∙ append_assoc before p.new (f ∷ []);
      long = subst (λ (o : Option (List (List ℕ))). IfSome o (λ blocks. length blocks ≡ size)) (sym pushed) done.0;
      all = subst (λ (o : Option (List (List ℕ))). AllByRecursion (Stored n o) (files ++ f ∷ [])) (sym pushed) done.1;
    }
