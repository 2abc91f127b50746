-- Files that keep their records, and disks that keep what isn't a page of a file.
use Rattle.seg_ops.proofs.vm_world.FrameRule.{info-at}
use Rattle.std.proofs.Common.{◌≡◌, ℕ, ◌<◌, ◌≤◌, List, [], ◌∷◌, length, map, Option, Some, None, refl, sym, ap, ◌∙◌, subst, arith}
use Rattle.std.specs.Prelude.{slice_index_or, IsSome}
use Rattle.std.specs.FinMap as finite
use Rattle.std.proofs.lemmas.List.{length-map}
use Rattle.seg_ops.specs.block_device.DiskSeen.{DiskSeen}
use Rattle.seg_ops.specs.page_hash.declared.PageName.{PageName}
use Rattle.seg_ops.specs.page_store.Layout.{FileBlocks, AreDisjoint, KeepsPage}
use Rattle.seg_ops.specs.vnode_files.declared.vnode.FileInfo.{FileInfo}
use Rattle.seg_ops.specs.vnode_files.Files.{FilesSeen, vnode_at, block_count}
use Rattle.seg_ops.specs.vnode_files.Layout.{disk_of_file, block_of_page}
use Rattle.seg_ops.specs.vnode_files.Vnode.{VnodeSeen, no_vnode, page_blocks, IsSoundVnode}
use Rattle.seg_ops.specs.flat_model.Words.{pages_in}
use Rattle.seg_ops.specs.vm_world.FramesFit.{FilesFit}
use Rattle.seg_ops.specs.vm_world.World.{file_blocks}
use Rattle.seg_ops.proofs.vm_world.LieAlike.{lie-alike}
use Rattle.kernel_close.specs.Finish.{IsFilePage, LiesIn, bytes_of_page, disk_at, IsPageBlock, KeepsOtherBlocks, KeepsDisk, KeepDisks, KeepRecords}

pub info-kept : (F G : FilesSeen) → KeepRecords F G → (f : ℕ) → (vnode_at G f).info ≡ (vnode_at F f).info
info-kept F G k f = info-at G.files f ∙ ap (λ (infos : List FileInfo). slice_index_or infos f no_vnode.info) k.infos ∙ sym (info-at F.files f)

pub count-kept : (F G : FilesSeen) → KeepRecords F G → length G.files ≡ length F.files
count-kept F G k = sym (length-map G.files (λ (v : VnodeSeen). v.info)) ∙ ap length k.infos ∙ length-map F.files (λ (v : VnodeSeen). v.info)

pub records-refl : (F : FilesSeen) → KeepRecords F F
records-refl F = record { disks = refl; infos = refl }

pub records-back : (F G : FilesSeen) → KeepRecords F G → KeepRecords G F
records-back F G k = record { disks = sym k.disks; infos = sym k.infos }

pub records-then : (F G H : FilesSeen) → KeepRecords F G → KeepRecords G H → KeepRecords F H
records-then F G H k l = record { disks = l.disks ∙ k.disks; infos = l.infos ∙ k.infos }

-- pages of files stay, with their disks, blocks and bytes
pub page-kept : (F G : FilesSeen) → KeepRecords F G → (n : PageName) → IsFilePage F n → IsFilePage G n
page-kept F G k n p = record {
  file = let same = count-kept F G k in let lt = p.file in omega (arith, same, lt);
  below = subst (λ (i : FileInfo). n.page < pages_in i.length) (sym (info-kept F G k n.object)) p.below;
}

pub disk-kept : (F G : FilesSeen) → KeepRecords F G → (f : ℕ) → disk_of_file G f ≡ disk_of_file F f
disk-kept F G k f = ap (λ (i : FileInfo). i.disk) (info-kept F G k f)

pub block-kept : (F G : FilesSeen) → KeepRecords F G → (n : PageName) → block_of_page G n.object n.page ≡ block_of_page F n.object n.page
block-kept F G k n = ap (λ (i : FileInfo). slice_index_or (page_blocks i.extents) n.page 0) (info-kept F G k n.object)

pub bytes-kept : (F G : FilesSeen) → KeepRecords F G → (n : PageName) → bytes_of_page G n ≡ bytes_of_page F n
bytes-kept F G k n = ap (λ (i : FileInfo). bytes_of_page (record { disks = finite.empty; files = record { info = i; blanks = [] } ∷ [] }) (record { object = 0; page = n.page })) (info-kept F G k n.object)

pub lies-back : (F G : FilesSeen) (disk block : ℕ) (n : PageName) → KeepRecords F G → LiesIn G disk block n → LiesIn F disk block n
lies-back F G disk block n k lies = (sym (disk-kept F G k n.object) ∙ lies.0, sym (block-kept F G k n) ∙ lies.1)

pub page-block-back : (F G : FilesSeen) (disk block : ℕ) → KeepRecords F G → IsPageBlock G disk block → IsPageBlock F disk block
page-block-back F G disk block k p = record {
  name = p.name;
  page = page-kept G F (records-back F G k) p.name p.page;
  on_disk = sym (disk-kept F G k p.name.object) ∙ p.on_disk;
  in_block = sym (block-kept F G k p.name) ∙ p.in_block;
}

-- what the files fit stays
blocks-by : (vs : List VnodeSeen) → map file_blocks vs ≡ map (λ (i : FileInfo). record { disk = i.disk; length = i.length; blocks = page_blocks i.extents }) (map (λ (v : VnodeSeen). v.info) vs)
blocks-by [] = refl
blocks-by (v ∷ vs) = ap (λ (l : List FileBlocks). file_blocks v ∷ l) (blocks-by vs)

pub blocks-same : (F G : FilesSeen) → KeepRecords F G → map file_blocks G.files ≡ map file_blocks F.files
blocks-same F G k = blocks-by G.files ∙ ap (map (λ (i : FileInfo). record { disk = i.disk; length = i.length; blocks = page_blocks i.extents })) k.infos ∙ sym (blocks-by F.files)

pub files-fit-kept : (F G : FilesSeen) → KeepRecords F G → ((f : ℕ) → f < length G.files → IsSoundVnode (vnode_at G f)) → FilesFit F → FilesFit G
files-fit-kept F G k sound fit =
    let same = blocks-same F G k in
    let alike = lie-alike F G k.disks k.infos in
    record {
      small = λ number blocks is. fit.small number blocks (ap (λ (m : finite.FinMap _ ℕ). finite.get m number) (sym k.disks) ∙ is);
      each = sound;
      disjoint = subst AreDisjoint (sym same) fit.disjoint;
      set = λ f lt. let count = count-kept F G k in
          subst (λ (m : finite.FinMap _ ℕ). IsSome (finite.get m (vnode_at G f).info.disk)) (sym k.disks)
          (subst (λ (i : FileInfo). IsSome (finite.get F.disks i.disk)) (sym (info-kept F G k f)) (fit.set f (omega (arith, lt, count))));
      low = λ n b block p. fit.low n b block (subst (λ (l : List FileBlocks). KeepsPage l n b block) same p);
      high = λ n b block p. subst (λ (m : finite.FinMap _ ℕ). block < block_count m b.disk) (sym k.disks) (fit.high n b block (subst (λ (l : List FileBlocks). KeepsPage l n b block) same p));
      lie = alike.on_disks fit.lie;
      apart = alike.none_meet fit.apart;
      few = alike.few fit.few;
      some = λ f lt. let count = count-kept F G k in subst (λ (i : FileInfo). 1 ≤ length i.extents) (sym (info-kept F G k f)) (fit.some f (omega (arith, lt, count)));
    }

-- DISKS that keep their blocks, one after another
pub other-blocks-refl : (F : FilesSeen) (disk : ℕ) (content : Option (List (List ℕ))) → KeepsOtherBlocks F disk content content
other-blocks-refl F disk None = tt
other-blocks-refl F disk (Some blocks) = (refl, λ block out. refl)

other-blocks-then : (F G : FilesSeen) (disk : ℕ) (a b c : Option (List (List ℕ))) → KeepRecords F G → KeepsOtherBlocks F disk a b → KeepsOtherBlocks G disk b c → KeepsOtherBlocks F disk a c
other-blocks-then F G disk None None None k p q = tt
other-blocks-then F G disk None None (Some c) k p q = absurd q
other-blocks-then F G disk None (Some b) c k p q = absurd p
other-blocks-then F G disk (Some a) None c k p q = absurd p
other-blocks-then F G disk (Some a) (Some b) None k p q = absurd q
other-blocks-then F G disk (Some a) (Some b) (Some c) k p q = (q.0 ∙ p.0, λ block out. q.1 block (λ is. out (page-block-back F G disk block k is)) ∙ p.1 block out)

pub keeps-disk-refl : (F : FilesSeen) (d : ℕ × DiskSeen) → KeepsDisk F d d
keeps-disk-refl F d = record { number = refl; size = refl; kind = refl; faults = omega arith; blocks = other-blocks-refl F d.0 d.1.content }

pub keeps-disk-then : (F G : FilesSeen) (a b c : ℕ × DiskSeen) → KeepRecords F G → KeepsDisk F a b → KeepsDisk G b c → KeepsDisk F a c
keeps-disk-then F G a b c k p q = record {
  number = q.number ∙ p.number;
  size = q.size ∙ p.size;
  kind = q.kind ∙ p.kind;
  faults = let x = p.faults in let y = q.faults in omega (arith, x, y);
  blocks = other-blocks-then F G a.0 a.1.content b.1.content c.1.content k p.blocks (subst (λ (n : ℕ). KeepsOtherBlocks G n b.1.content c.1.content) p.number q.blocks);
}

pub keep-disks-then : (F G : FilesSeen) (L M N : List (ℕ × DiskSeen)) → KeepRecords F G → KeepDisks F L M → KeepDisks G M N → KeepDisks F L N
keep-disks-then F G L M N k p q = record {
  count = q.count ∙ p.count;
  each = λ i lt. let same = p.count in keeps-disk-then F G (disk_at L i) (disk_at M i) (disk_at N i) k (p.each i lt) (q.each i (omega (arith, lt, same)));
}
