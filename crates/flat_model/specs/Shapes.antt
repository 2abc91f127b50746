-- The shape of flat memory: all of it but the bytes of pages. Public clauses cite this.
use Rattle.std.specs.Prelude.{ℕ, ◌≡◌, Bool, List, [], ◌∷◌, ◌++◌, length, map, replicate, take, Option, Some, None, IsFalse, option_map, slice_get}
use Rattle.std.specs.Ordering.{nat_cmp}
use Rattle.std.specs.FinMap as finite
use Rattle.vm_types.specs.declared.call.Call.{Call}
use Rattle.vm_types.specs.declared.call.Entry.{Entry}
use Rattle.vm_types.specs.declared.call.Reply.{Reply}
use Rattle.vm_types.specs.declared.call.Reply.TheVariants as reply
use Rattle.flat_model.specs.Flat.{Cell, File, Flat, Space}
use Rattle.flat_model.specs.History.{is_io, replay}
use Rattle.flat_model.specs.Step.{after_act, effect, step, tails_cleared}
use Rattle.flat_model.specs.Words.{Page, zero_page}

-- The finite map with each value changed.
abbrev pub map_with : {X Y : Type 0} → (X → Y) → finite.FinMap nat_cmp X → finite.FinMap nat_cmp Y
map_with f m = finite.from_entries (map (λ e. (e.0, f e.1)) (finite.entries m))

-- As many pages, of zeros.
abbrev pub blank_pages : List Page → List Page
blank_pages pages = replicate (length pages) zero_page

-- The cell with zeros in its own page, where it has one.
abbrev pub blank_cell : Cell → Cell
blank_cell c = record c { own = option_map (λ page. zero_page) c.own }

-- The space with zeros in each page that a cell has of its own.
abbrev pub blank_space : Space → Space
blank_space space = map_with blank_cell space

-- The file with as many pages, all of them zeros.
abbrev pub blank_file : File → File
blank_file file = record file { pages = blank_pages file.pages }

-- Flat memory with zeros in each page that it has: of files, of zero objects, and of cells' own.
abbrev pub without_bytes : Flat → Flat
without_bytes F = record F { files = map blank_file F.files; zeros = map_with blank_pages F.zeros; spaces = map_with blank_space F.spaces }

-- Both have the same but for the bytes of pages: as many slots, the same disks, files that differ in bytes alone, zero objects of the same lengths, the same cells with pages of their own at the same places, and the same processes.
abbrev pub SameShape : Flat → Flat → Type 0
SameShape F G = without_bytes F ≡ without_bytes G

-- Where two have the same shape, so have what this function makes of them.
abbrev pub RespectsShape : (Flat → Flat) → Type 0
RespectsShape f = (F G : Flat) → SameShape F G → SameShape (f F) (f G)

-- A reply that is a signal or an errno; none for any other.
abbrev pub refusal_in : Reply → Option Reply
refusal_in (reply.Signal s) = Some (reply.Signal s)
refusal_in (reply.Refused e) = Some (reply.Refused e)
refusal_in r = None

-- Each entry of the history, but for device errors, has the signal or errno that was due to its call then, or none where none was.
abbrev pub RefusesAsDue : Flat → List Entry → Type 0
RefusesAsDue F H = (k : ℕ) (e : Entry) → slice_get H k ≡ Some e → IsFalse (is_io e.reply) → refusal_in (effect (replay F (take k H)) e.process e.call).reply ≡ refusal_in e.reply

-- Where two have the same shape, the signal or errno that is due to a call, or that none is, is the same in both, and so is the shape after an entry, whether tails became zeros first or not. Zeros in tails change no shape. And a history whose entries have what was due has so with an entry more that does.
pub record KeepsShape : Type 0 where
  pub refusal : (F G : Flat) (p : ℕ) (call : Call) → SameShape F G → refusal_in (effect F p call).reply ≡ refusal_in (effect G p call).reply
  pub acts : (e : Entry) → RespectsShape (λ F. after_act F e)
  pub steps : (F G : Flat) (e : Entry) → SameShape F G → SameShape (after_act F e) (step G e)
  pub cleared : (F : Flat) (test : ℕ → Bool) → SameShape (tails_cleared F test) F
  pub one_more : (F : Flat) (H : List Entry) (e : Entry) → RefusesAsDue F H → (IsFalse (is_io e.reply) → refusal_in (effect (replay F H) e.process e.call).reply ≡ refusal_in e.reply) → RefusesAsDue F (H ++ e ∷ [])
