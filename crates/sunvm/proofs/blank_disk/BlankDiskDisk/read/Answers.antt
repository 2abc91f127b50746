use Rattle.std.proofs.Common.{◌∙◌, ◌≡◌, List, Option, Some, None, ℕ, ap, sym, refl, replicate, length, arith}
use Rattle.std.specs.Prelude.{slice_index_or}
use Rattle.disk_file.specs.block_device.declared.block.Block.{Block}
use Rattle.sunvm.specs.BlankDisks.{written_at}
use Rattle.sunvm.proofs.BlankDiskLemmas.{blank-read, bytes-or, written-read}
use Rattle.sunvm.proofs.blank_disk.BlankDiskDisk.read.Goals as goal

pub returns-in-None : goal.returns-in-None
returns-in-None c =
    let d = c.args.self.now in
    record {
      gives = c.fill.ensures.after (λ y same. same) ∙ ap (λ (count : ℕ). replicate {A = ℕ} count 0) c.requires.size
          ∙ sym (blank-read d.places.items d.written.items d.size c.args.block c.requires.block d.few (sym (c.place_of.ensures ∙ ap (λ (l : List (Option ℕ)). slice_index_or l c.args.block None) c.deref.ensures.value) ∙ c.in-None.is));
      content = refl;
      size = refl;
      kind = refl;
      steady = refl;
      calls = omega (arith, c.saturating_add-self.ensures);
      cause = record { later = omega arith; failed = tt };
    }

pub returns-in-Some : goal.returns-in-Some
returns-in-Some c =
    let d = c.args.self.now in
    let is : slice_index_or d.places.items c.args.block None ≡ Some c.in-Some.place = sym (c.place_of.ensures ∙ ap (λ (l : List (Option ℕ)). slice_index_or l c.args.block None) c.deref.ensures.value) ∙ c.in-Some.is in
    let own : written_at d.written.items c.in-Some.place ≡ c.copy_from_slice.new.self =
    bytes-or d.written.items c.in-Some.place _ (d.placed.within c.args.block c.in-Some.place is) ∙ ap (λ (b : Block). b.bytes) (sym c.index.ensures) ∙ sym c.copy_from_slice.ensures.after in
    record {
      gives = sym own ∙ sym (written-read d.places.items d.written.items d.size c.args.block c.in-Some.place c.requires.block d.few is);
      content = refl;
      size = refl;
      kind = refl;
      steady = refl;
      calls = omega (arith, c.saturating_add-self.ensures);
      cause = record { later = omega arith; failed = tt };
    }
