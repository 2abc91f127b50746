use Rattle.std.proofs.Common.{◌≡◌, ℕ, List, [], ◌∷◌, ◌++◌, ◌∙◌, sym, ap, subst}
use Rattle.vm_core.specs.page_store.Bays.{pairs_seen}
use Rattle.vnode_files.specs.Files.{FilesSeen}
use Rattle.vm_core.specs.Setup.{FilesOnDisks}
use Rattle.test_acts.proofs.TrialFiles.{on-disks}
use Rattle.test_threads.proofs.file_setups.over_files.Goals as goal

pub start-requires-clause-files : goal.start-requires-clause-files
start-requires-clause-files g c =
    let row = c.push_reserved-2.new.self.items in
    let items : row ≡ (0, c.args.first) ∷ (1, c.args.second) ∷ [] =
    c.push_reserved-2.ensures.items ∙ ap (λ (l : List (ℕ × _)). l ++ (1, c.args.second) ∷ []) (c.push_reserved.ensures.items ∙ ap (λ (l : List (ℕ × _)). l ++ (0, c.args.first) ∷ []) c.in_ok-disks.ensures.items) in
    let f = c.in_ok-new_files.ensures in
    subst (λ (files : FilesSeen). FilesOnDisks files (pairs_seen g.D.Disk.seen row)) (sym f.2) (on-disks f.0 f.1 g.D.Disk.seen row c.args.first c.args.second items c.requires.0 c.requires.1)
