-- THE TABLE OF PLACES once a slot was made: the slot's page may have become blank, and no other place changed.
use Rattle.std.proofs.Common.{◌≡◌, ◌≢◌, ℕ, ◌==◌, Bool, false, cond, List, length, map, Option, Some, sym, ap, ◌∙◌, inl, inr, arith, slice_index_or}
use Rattle.std.specs.Prelude.{not, unwrap_or, nat_lt}
use Rattle.std.proofs.lemmas.Bool.Decides.{eqb_tells}
use Rattle.page_store.specs.page_hash.Names.{name_at}
use Rattle.page_store.specs.page_hash.declared.PageName.{PageName}
use Rattle.page_store.specs.Layout.{file_page_place, slot_place, own_place, is_slot, table_of}
use Rattle.page_store.specs.Notes.{Notes}
use Rattle.page_store.specs.Seen.{StoreSeen}
use Rattle.page_store.specs.StoreFits.{StoreFits}
use Rattle.page_store.specs.declared.place.Place.{Place}
use Rattle.page_store.proofs.TableLemmas.{table_law}
use Rattle.vm_world.specs.anon_map.Maps.{Map}
use Rattle.vm_world.specs.anon_slots.Slots.{AnonSlotsSeen}
use Rattle.vm_world.specs.vnode_files.Files.{vnode_at}
use Rattle.vm_world.specs.vnode_files.Vnode.{is_blank}
use Rattle.vm_world.specs.vnode_files.Grow.{page_count}
use Rattle.vm_world.specs.FramesFit.{FilesFit}
use Rattle.vm_world.specs.World.{World, file_blocks, slot_name, is_unpushed, is_page_name, page_table, world_table}
use Rattle.vm_world.proofs.PageNames.{slot-place}
use Rattle.seg_ops.specs.Slots.{MakesSlot}
use Rattle.seg_ops.proofs.Marks.{SameSpot, cases-name}

-- no frame has the name
abbrev pub IsUnnamed : StoreSeen → PageName → Type 0
IsUnnamed s name = (k : ℕ) → name_at s.names k ≢ Some name

-- every other page was pushed if it was
pub unpushed-else : (w : World) (anon : AnonSlotsSeen) (put : List (Option Map)) (m i s : ℕ) (n : PageName) → MakesSlot w.anon anon w.maps put m i s → n ≢ slot_name s → is_unpushed w.files anon n ≡ is_unpushed w.files w.anon n
unpushed-else w anon put m i s n k ne = elim (eqb_tells n.object 64) [
  | inr x ↦ ap (λ (c : Bool). cond c (not (slice_index_or anon.swapped n.page false)) (is_blank (vnode_at w.files n.object) n.page)) x.0 ∙ sym (ap (λ (c : Bool). cond c (not (slice_index_or w.anon.swapped n.page false)) (is_blank (vnode_at w.files n.object) n.page)) x.0)
  | inl y ↦
      let apart : n.page ≢ s = λ e. ne (λ j. record { object = y.1 j; page = e j }) in
      ap (λ (c : Bool). cond (n.object == 64) (not c) (is_blank (vnode_at w.files n.object) n.page)) (k.swapped n.page apart)
]

table-by : (w : World) (anon : AnonSlotsSeen) (put : List (Option Map)) (m i s : ℕ) (n : PageName) → MakesSlot w.anon anon w.maps put m i s
    → page_table w.files anon n ≡ table_of (map file_blocks w.files.files) (length w.anon.counts) (is_unpushed w.files anon) n
table-by w anon put m i s n k = ap (λ (c : ℕ). table_of (map file_blocks w.files.files) c (is_unpushed w.files anon) n) k.slots

pub table-else : (w : World) (anon : AnonSlotsSeen) (put : List (Option Map)) (m i s : ℕ) (n : PageName) → MakesSlot w.anon anon w.maps put m i s → n ≢ slot_name s → page_table w.files anon n ≡ world_table w n
table-else w anon put m i s n k ne =
    table-by w anon put m i s n k
    ∙ ap (λ (b : Bool). unwrap_or (file_page_place (map file_blocks w.files.files) n b) (cond (is_slot (length w.anon.counts) n) (slot_place n.page b) (own_place n))) (unpushed-else w anon put m i s n k ne)

-- where each page lives stays
pub table-spot : (w : World) (anon : AnonSlotsSeen) (put : List (Option Map)) (m i s : ℕ) (n : PageName) → FilesFit w.files → MakesSlot w.anon anon w.maps put m i s → SameSpot (page_table w.files anon n) (world_table w n)
table-spot w anon put m i s n fit k = elim (cases-name (slot_name s) n) [
  | inr ne ↦ let e = table-else w anon put m i s n k ne in record { disk = ap (λ (p : Place). p.disk) e; block = ap (λ (p : Place). p.block) e; valid = ap (λ (p : Place). p.valid) e }
  | inl is ↦
      let now : page_table w.files anon n ≡ slot_place s (is_unpushed w.files anon (slot_name s)) = ap (page_table w.files anon) is ∙ slot-place w.files anon s fit (let lt = k.there in let e = k.slots in omega (arith, lt, e)) in
      let was : world_table w n ≡ slot_place s (is_unpushed w.files w.anon (slot_name s)) = ap (world_table w) is ∙ slot-place w.files w.anon s fit k.there in
      record { disk = ap (λ (p : Place). p.disk) now ∙ sym (ap (λ (p : Place). p.disk) was); block = ap (λ (p : Place). p.block) now ∙ sym (ap (λ (p : Place). p.block) was); valid = ap (λ (p : Place). p.valid) now ∙ sym (ap (λ (p : Place). p.valid) was) }
]

-- which names are of pages stays
pub page-name-made : (w : World) (anon : AnonSlotsSeen) (put : List (Option Map)) (m i s : ℕ) (n : PageName) → MakesSlot w.anon anon w.maps put m i s → is_page_name w.files anon n ≡ is_page_name w.files w.anon n
page-name-made w anon put m i s n k = ap (λ (c : ℕ). cond (n.object == 64) (nat_lt n.page c) (nat_lt n.page (page_count (vnode_at w.files n.object).info.extents))) k.slots

-- THE NOTES FIT the new table, where no frame has the slot's page: a page that is read and isn't gone has its frame.
pub fits-made : (w : World) (anon : AnonSlotsSeen) (put : List (Option Map)) (m i s : ℕ) (notes : Notes) → FilesFit w.files → MakesSlot w.anon anon w.maps put m i s → IsUnnamed w.store (slot_name s) → StoreFits w.store notes (world_table w) → StoreFits w.store notes (page_table w.files anon)
fits-made w anon put m i s notes fit k unnamed f =
    let spot : (n : PageName) → SameSpot (page_table w.files anon n) (world_table w n) = λ n. table-spot w anon put m i s n fit k in
    table_law.fits w.store notes (world_table w) (page_table w.files anon) f (record {
      apart = λ a b d e. f.apart a b (sym (spot a).disk ∙ d ∙ (spot b).disk) (sym (spot a).block ∙ e ∙ (spot b).block);
      each_note = λ seat note is.
          let o = f.each_note seat note is in
          record {
            disk = (spot note.name).disk ∙ o.disk;
            block = (spot note.name).block ∙ o.block;
            read = λ reads stands.
                let same = table-else w anon put m i s note.name k (λ e. unnamed _ (o.out.page stands ∙ ap (λ (n : PageName). Some n) e)) in
                let r = o.read reads stands in
                (ap (λ (p : Place). p.valid) same ∙ r.0, ap (λ (p : Place). p.blank) same ∙ r.1);
          };
      cached = λ frame n cached named. table_law.clean w.store notes (world_table w) (page_table w.files anon) frame n
          (table-else w anon put m i s n k (λ e. unnamed frame (named ∙ ap (λ (x : PageName). Some x) e))) (f.each_cached frame n cached named);
    })
