use Rattle.std.proofs.Common.{◌≡◌, sym, subst, ◌∙◌}
use Rattle.vm_core.specs.flat_model.Flat.{cell_at}
use Rattle.vm_core.specs.page_store.Notes.{Notes}
use Rattle.vm_core.specs.vm_world.FlatMemory.{flat_memory}
use Rattle.vm_core.specs.vm_world.State.{KernelState}
use Rattle.vm_core.specs.vm_world.StateFits.{StateFits}
use Rattle.vm_kernel.specs.Objects.{object_told}
use Rattle.vm_kernel.proofs.boxed.BoxedState.object.Goals as goal

pub object-requires : goal.object-requires
object-requires g c =
    let fits = c.requires.fits in
    record {
      fits = (
        fits.0,
        fits.1,
        subst (λ (k : KernelState). StateFits fits.0 k fits.1)
            (sym (c.deref.ensures ∙ c.self.view_is)) fits.2,
      );
    }

pub returns : goal.returns
returns g c = record {
  told = λ notes. subst (λ (k : KernelState). c.object.result
      ≡ object_told (cell_at (flat_memory k.memory k.born notes) c.args.process c.args.page))
      (c.deref.ensures ∙ c.self.view_is) (c.object.ensures notes);
}
