-- The chains against the names.
use Rattle.std.proofs.Common.{◌≡◌, ℕ, ◌<◌, Option, Some, None, List, [], refl, sym, ◌∙◌, ap, length, set, replicate, arith, ◌∷◌, true, false}
use Rattle.std.specs.Prelude.{map}
use Rattle.std.proofs.lemmas.List.{map-set, length-map, length-replicate}
use Rattle.std.proofs.Math.ListN.{length-set, get_or-map}
use Rattle.hash_chains.specs.Order.{ChainsSeen, chain_at, owner_at, is_among, without_place}
use Rattle.hash_chains.specs.Slots.{pair_slot}
use Rattle.hash_chains.proofs.LinkLemmas.{at-replicate}
use Rattle.hash_chains.proofs.OwnerLaws.{some-within, nones, owners-none, owner-is, owned-on, free-off, owners-linked, owners-unlinked}
use Rattle.page_hash.specs.declared.PageName.{PageName}
use Rattle.page_hash.specs.Names.{name_at, find}
use Rattle.page_hash.specs.Index.{slot_of, IsSoundPageHash}
use Rattle.page_hash.proofs.NameLaws.{entered-distinct, emptied-distinct}

pub sound-new : (names : List (Option PageName)) (slots frames : ℕ) (chains : ChainsSeen) → names ≡ replicate frames None → chains.order ≡ replicate slots []
    → chains.size ≡ frames → 0 < slots → IsSoundPageHash names slots chains
sound-new names slots frames chains e order size some = rw e (record {
  some = some;
  slots_are = ap (λ (o : List (List ℕ)). length o) order ∙ length-replicate slots [];
  size = size ∙ sym (length-replicate frames None);
  owners = rw order (rw (sym (nones (slot_of slots) refl frames)) (owners-none slots frames));
  distinct = λ i j n a b. let z : None ≡ Some n = sym (at-replicate frames i None) ∙ a in cc;
})

module _ (names : List (Option PageName)) (slots : ℕ) (chains : ChainsSeen) (h : IsSoundPageHash names slots chains) (name : PageName) (frame : ℕ) where
  -- the owner of a frame is the slot of its name
  owner : (o : Option PageName) → name_at names frame ≡ o → owner_at (map (slot_of slots) names) frame ≡ slot_of slots o
  owner o e = get_or-map (slot_of slots) names frame None ∙ ap (slot_of slots) e

  pub on-slot : name_at names frame ≡ Some name → is_among frame (chain_at chains.order (pair_slot slots name.object name.page)) ≡ true
  on-slot e = owned-on chains.order (map (slot_of slots) names) h.owners (pair_slot slots name.object name.page) frame (owner (Some name) e)

  pub off-all : name_at names frame ≡ None → (c : ℕ) → is_among frame (chain_at chains.order c) ≡ false
  off-all e = free-off chains.order (map (slot_of slots) names) h.owners frame (owner None e)

  pub frame-within : (slot : ℕ) → is_among frame (chain_at chains.order slot) ≡ true → frame < length names
  frame-within slot on = let n = length-map names (slot_of slots) in let w = some-within (map (slot_of slots) names) frame slot
      (owner-is chains.order (map (slot_of slots) names) h.owners slot frame on) in omega arith

  pub sound-entered : (chains' : ChainsSeen) → frame < length names → name_at names frame ≡ None → find names name ≡ None
      → chains'.order ≡ set chains.order (pair_slot slots name.object name.page) (frame ∷ chain_at chains.order (pair_slot slots name.object name.page))
      → chains'.size ≡ chains.size → pair_slot slots name.object name.page < slots → IsSoundPageHash (set names frame (Some name)) slots chains'
  sound-entered chains' lt empty absent order size in_slots = record {
    some = h.some;
    slots_are = ap (λ (o : List (List ℕ)). length o) order ∙ length-set chains.order (pair_slot slots name.object name.page) _ ∙ h.slots_are;
    size = size ∙ h.size ∙ sym (length-set names frame (Some name));
    owners = rw order (rw (map-set (slot_of slots) names frame (Some name))
        (owners-linked chains.order (map (slot_of slots) names) h.owners frame (pair_slot slots name.object name.page) (let a = h.slots_are in omega arith)
        (let n = length-map names (slot_of slots) in omega arith) (owner None empty)));
    distinct = entered-distinct names name frame lt h.distinct absent;
  }

  pub sound-removed : (chains' : ChainsSeen) → name_at names frame ≡ Some name
      → chains'.order ≡ set chains.order (pair_slot slots name.object name.page)
      (without_place frame (chain_at chains.order (pair_slot slots name.object name.page))) → chains'.size ≡ chains.size → IsSoundPageHash (set names frame None) slots chains'
  sound-removed chains' held order size = let lt = some-within names frame name held in record {
    some = h.some;
    slots_are = ap (λ (o : List (List ℕ)). length o) order ∙ length-set chains.order (pair_slot slots name.object name.page) _ ∙ h.slots_are;
    size = size ∙ h.size ∙ sym (length-set names frame None);
    owners = rw order (rw (map-set (slot_of slots) names frame None) (owners-unlinked chains.order (map (slot_of slots) names) h.owners frame
        (pair_slot slots name.object name.page) (let n = length-map names (slot_of slots) in omega arith) (owner (Some name) held)));
    distinct = emptied-distinct names frame lt h.distinct;
  }
