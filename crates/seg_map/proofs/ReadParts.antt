-- WHAT IS ANSWERED TO A PART OF A READ.
use Rattle.std.proofs.Common.{◌≡◌, ◌≢◌, ℕ, ◌-◌, ◌%◌, ◌<◌, ◌≤◌, Bool, cond, List, [], length, None, refl, sym, ap, ◌∙◌, inr, subst, arith}
use Rattle.std.specs.Prelude.{IsTrue, take, drop, min, nat_lt, Ok, Err}
use Rattle.std.proofs.lemmas.Bool.{lt-ltb}
use Rattle.seg_ops.specs.anon_slots.Slots.{count_at, is_used}
use Rattle.seg_ops.specs.page_hash.declared.PageName.{PageName}
use Rattle.seg_ops.specs.page_store.Seen.{residence}
use Rattle.seg_ops.specs.page_store.Notes.{Notes}
use Rattle.seg_ops.specs.page_store.Table.{PlaceTable}
use Rattle.seg_ops.specs.page_store.Value.{value}
use Rattle.seg_ops.specs.vm_types.declared.call.Call.TheVariants.{Read}
use Rattle.seg_ops.specs.vm_types.declared.call.Reply.TheVariants as reply
use Rattle.seg_ops.specs.vnode_files.Files.{FilesSeen, vnode_at}
use Rattle.seg_ops.specs.flat_model.Words.{page, pages_in}
use Rattle.seg_ops.specs.vm_world.FileCalls.{file_refusal, read_count, ReadsFileLine}
use Rattle.seg_ops.specs.vm_world.MemoryFits.{MemoryFits}
use Rattle.seg_ops.specs.vm_world.Pages.{page_value}
use Rattle.seg_ops.specs.vm_world.Segments.{Spaces}
use Rattle.seg_ops.specs.vm_world.Serving.{ServesDone}
use Rattle.seg_ops.specs.vm_world.Wants.{PartWants}
use Rattle.seg_ops.specs.vm_world.World.{World, file_name, page_exists, world_table}
use Rattle.seg_ops.specs.vm_world.declared.wants.Wants.{Wants}
use Rattle.seg_ops.proofs.vm_world.FileCalls.{file_calls_law}
use Rattle.seg_ops.proofs.vm_world.FrameRule.{exists-page}
use Rattle.seg_ops.proofs.vm_world.PageNames.{not-slot, file-apart}
use Rattle.seg_ops.proofs.Composed.{keeps-same}
use Rattle.seg_ops.proofs.NewlyModified.{none-of, only-of, only-same}
use Rattle.seg_ops.proofs.StillSteps.{memory_of, value-is}
use Rattle.home_pages.specs.Brings.{BringsPage, BringModifies}
use Rattle.home_pages.proofs.Takes.{takes-none}
use Rattle.home_pages.proofs.Replacements.{none-replaced}
use Rattle.seg_map.specs.Served.{ServesWant}
use Rattle.seg_map.proofs.Waits.{none-due, waits}

-- a page below a file's end exists
pub below-exists : (w : World) (f i : ℕ) → f ≢ 64 → i < pages_in (vnode_at w.files f).info.length → IsTrue (page_exists w.files w.anon (file_name f i))
below-exists w f i far lt = ap (λ (b : Bool). cond b (is_used (count_at w.anon i)) (nat_lt i (pages_in (vnode_at w.files f).info.length))) (not-slot f far) ∙ lt-ltb i (pages_in (vnode_at w.files f).info.length) lt

-- a file is there to which no refusal of a read is due
pub read-there : (files : FilesSeen) (f offset len : ℕ) → file_refusal files (Read f offset len) ≡ None → f < length files.files
read-there files f offset len served = grind arith

-- A FILE'S PAGE THAT COMES HOME makes none modified.
pub brings-none : (old new : World) (f i : ℕ) → f ≢ 64 → (name : PageName) → BringModifies new (file_name f i) (Ok tt) name → ⊥
brings-none old new f i far name is = far (ap (λ (n : PageName). n.object) (sym is.0 ∙ is.1.1))

module _ (old : World) (spaces : Spaces) (pending p f offset len : ℕ) (fits : MemoryFits (memory_of old spaces)) (there : f < length old.files.files) (served : file_refusal old.files (Read f offset len) ≡ None) where
  abbrev name : PageName
  name = file_name f (page offset)

  far : f ≢ 64
  far = file-apart old.files f fits.files there

  -- NOTHING IS READ past the end.
  pub reads-nothing : read_count (vnode_at old.files f).info.length offset len ≡ 0 → ServesDone (memory_of old spaces) (memory_of old spaces) pending pending p (Read f offset len) (reply.Bytes [])
  reads-nothing none = record {
    mid = old;
    first = takes-none old old spaces pending (keeps-same old spaces fits);
    acts = λ cleared. file_calls_law.read p f offset len cleared [] (memory_of old spaces) fits served (λ notes nf tell. sym (no-bytes _ (read_count (vnode_at old.files f).info.length offset len) none));
    replaced = none-replaced old old;
    refusal = none-due old spaces p f (Read f offset len) fits refl served;
    modified = only-same _ old;
    clean = λ from n is wants. absurd (let z : reply.Bytes [] ≡ reply.Synced from = is in cc);
  }
    where
      no-bytes : (xs : List ℕ) (k : ℕ) → k ≡ 0 → take k xs ≡ []
      no-bytes xs k e = ap (λ (n : ℕ). take n xs) e ∙ search

  -- THE PAGE IS HOME, and the bytes are its.
  pub reads-line : (new : World) (more : ℕ) (line : List ℕ) → BringsPage (memory_of old spaces) (memory_of new spaces) pending more name (Ok tt) → new.files ≡ old.files
      → ((notes : Notes) (table : PlaceTable) → line ≡ take (read_count (vnode_at old.files f).info.length offset len) (drop (offset % 4096) (value new.store notes table name)))
      → IsTrue (page_exists new.files new.anon name) → ServesDone (memory_of old spaces) (memory_of new spaces) pending more p (Read f offset len) (reply.Bytes line)
  reads-line new more line b files is exists = record {
    mid = new;
    first = b.first;
    acts = λ cleared. file_calls_law.read p f offset len cleared line (memory_of new spaces) b.first.step.memory (ap (λ (fs : FilesSeen). file_refusal fs (Read f offset len)) files ∙ served) reads;
    replaced = b.replaced;
    refusal = none-due old spaces p f (Read f offset len) fits refl served;
    modified = only-of _ old new (none-of (BringModifies new name (Ok tt)) old new (brings-none old new f (page offset) far) b.modified);
    clean = λ from n e wants. absurd (let z : reply.Bytes line ≡ reply.Synced from = e in cc);
  }
    where
      reads : ReadsFileLine new f offset len line
      reads = λ notes nf tell.
          is notes (world_table new)
          ∙ ap (λ (bytes : List ℕ). take (read_count (vnode_at old.files f).info.length offset len) (drop (offset % 4096) bytes)) (sym (value-is new notes name (exists-page new name b.first.step.memory.files exists)))
          ∙ ap (λ (fs : FilesSeen). take (read_count (vnode_at fs f).info.length offset len) (drop (offset % 4096) (page_value new notes name))) (sym files)

  -- IT MUST COME HOME FIRST.
  pub read-waits : (new : World) (more : ℕ) (want : Wants) → BringsPage (memory_of old spaces) (memory_of new spaces) pending more name (Err want) → new.files ≡ old.files
      → 1 ≤ read_count (vnode_at old.files f).info.length offset len → ServesWant (memory_of old spaces) (memory_of new spaces) pending more p (Read f offset len) want
  read-waits new more want b files some =
      waits old new spaces pending more p f (Read f offset len) name want b.first fits refl served files b.replaced (none-of (BringModifies new name (Err want)) old new (λ n is. is) b.modified)
      (subst (λ (fs : FilesSeen). PartWants f offset (min len ((vnode_at fs f).info.length - offset)) name) (sym files) (omega (arith, some), refl))
      (λ m frame wants home. absurd (b.means.1 frame (ap (residence old.store) (sym wants.1) ∙ home))) b.means.0
