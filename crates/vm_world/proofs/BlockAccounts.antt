-- Blocks are accounted for, along events.
use Rattle.std.proofs.Common.{ℕ, suc, Bool, true, false, cond, List, [], ◌∷◌, refl, sym, subst, arith}
use Rattle.std.specs.Prelude.{nat_lt, take}
use Rattle.std.proofs.lemmas.List.{append-nil}
use Rattle.flat_model.specs.vm_types.Pages.{pages_in}
use Rattle.flat_model.specs.vm_types.declared.call.Call.{Call}
use Rattle.flat_model.specs.vm_types.declared.call.Call.TheVariants.{Sync, Truncate}
use Rattle.flat_model.specs.vm_types.declared.call.Reply.{Reply}
use Rattle.flat_model.specs.vm_types.declared.call.Reply.TheVariants as reply
use Rattle.flat_model.specs.Flat.{Flat}
use Rattle.flat_model.specs.vnode_files.Files.{FilesSeen, vnode_at}
use Rattle.flat_model.specs.vnode_files.Vnode.{page_blocks}
use Rattle.page_store.specs.page_hash.declared.PageName.{PageName}
use Rattle.page_store.specs.Notes.{Notes}
use Rattle.mark_laws.specs.AccountLaws.{TellsNoMore}
use Rattle.mark_laws.specs.Cuts.{marks_shortened}
use Rattle.mark_laws.specs.disk_marks.Changes.{marks_emptied, marks_raised}
use Rattle.mark_laws.proofs.Accounts.{accounts_rule}
use Rattle.vm_world.specs.CallSteps.{MarksAfterReply}
use Rattle.vm_world.specs.Events.{AccountsForBlocks, KeepsAccounts, moment_of}
use Rattle.vm_world.specs.FlatMemory.{Memory}
use Rattle.vm_world.specs.Marks.{MarksSeen}
use Rattle.vm_world.specs.State.{KernelState}
use Rattle.vm_world.specs.StateEntries.{marks_answered}
use Rattle.vm_world.specs.StateMarks.{marks_risen}
use Rattle.vm_world.specs.StateSyncs.{marks_all_risen}
use Rattle.vm_world.specs.World.{World, is_unpushed, world_table}

-- what is accounted for from one state to another, from whichever moment on
pub keeps-accounts : (F : Flat) (s t : KernelState) (x y : Notes) → AccountsForBlocks F s x t y → KeepsAccounts F s x t y
keeps-accounts F s t x y accounts tell = let a = accounts tell in (a.0, λ first up. accounts_rule.and_then F first (moment_of s x) (moment_of t y) up a.1)

-- one event after another
pub accounts-then : (F : Flat) (s t u : KernelState) (x y z : Notes) → KeepsAccounts F s x t y → KeepsAccounts F t y u z → KeepsAccounts F s x u z
accounts-then F s t u x y z first then tell = let b = then tell in let a = first b.0 in (a.0, λ from up. b.1 from (a.1 from up))

-- a state accounts for itself
pub at-rest : (F : Flat) (s : KernelState) (x : Notes) → AccountsForBlocks F s x s x
at-rest F s x tell = (tell, accounts_rule.still F (moment_of s x) (moment_of s x) [] (sym (append-nil s.history)) (λ disk block low. refl) (λ disk count is. (count, is, omega arith)) (λ disk block is. is))

-- NO ANSWER makes a mark tell of a failure that it didn't: a cut doesn't, ..
tells-answered : (files : FilesSeen) (call : Call) (r : Reply) (j : ℕ) (m : MarksSeen) → TellsNoMore m (marks_answered files call r j m)
tells-answered files (Truncate f len) reply.Done j m disk block is = by_length (nat_lt len (vnode_at files f).info.length) disk block is
  where
    by_length : (b : Bool) → TellsNoMore m (cond b (marks_shortened m f (vnode_at files f).info.disk (vnode_at files f).info.extents (vnode_at files f).info.length len j) m)
    by_length true disk block is = accounts_rule.cut m f (vnode_at files f).info.disk (pages_in len) j (take (pages_in (vnode_at files f).info.length) (page_blocks (vnode_at files f).info.extents)) disk block is
    by_length false disk block is = is
tells-answered files (Truncate f len) r j m disk block is = is
tells-answered files call r j m disk block is = is

-- .. nor do marks that rise
tells-risen : (w : World) (names : List PageName) (m : MarksSeen) (j : ℕ) → TellsNoMore m (marks_all_risen w m names j)
tells-risen w [] m j disk block is = is
tells-risen w (name ∷ names) m j disk block is = by_blank (is_unpushed w.files w.anon name) disk block (tells-risen w names (marks_risen w m name j) j disk block is)
  where
    by_blank : (b : Bool) → TellsNoMore m (cond b (marks_emptied m (world_table w name).disk (world_table w name).block name.object name.page j) (marks_raised m (world_table w name).disk (world_table w name).block j))
    by_blank true = accounts_rule.emptied m (world_table w name).disk (world_table w name).block name.object name.page j
    by_blank false = accounts_rule.raised m (world_table w name).disk (world_table w name).block j

pub tells-replied : (old new : Memory) (p : ℕ) (call : Call) (r : Reply) (entries : ℕ) (m n : MarksSeen) → MarksAfterReply old new p call r entries m n → TellsNoMore m n
tells-replied old new p (Sync addr len) (reply.Synced b) entries m n after = subst (TellsNoMore m) (sym after.rose) (tells-risen new.world after.names m entries)
tells-replied old new p (Sync addr len) r entries m n same = subst (TellsNoMore m) (sym same) (tells-answered old.world.files (Sync addr len) r (suc entries) m)
tells-replied old new p call r entries m n same = subst (TellsNoMore m) (sym same) (tells-answered old.world.files call r (suc entries) m)
