use Rattle.std.proofs.Common.{◌∙◌, ap, length, take, arith, length-drop}
use Rattle.block_device.specs.StreamSeen.{text_with_more}
use Rattle.block_device.proofs.StreamLemmas.{front_goes_on, tail-is}
use Rattle.block_device.proofs.reading.write_all.Goals as goal

pub loop-done-preserved : goal.loop-done-preserved
loop-done-preserved g c =
    let put = c.in_ok-done.ensures.bytes in
    let all = c.args.text.now in
    let done = c.loop-done.done in
    record {
      within = omega (arith, put.fits, length-drop done all, ap length (tail-is all done));
      text = front_goes_on _ _ _ all done c.in_ok-done.field-0 c.loop-done.invariant.text
          (put.text ∙ ap (λ piece. text_with_more (g.K.Sink.seen c.loop-done.sink).written (take c.in_ok-done.field-0 piece)) (tail-is all done));
      steady = c.in_ok-done.ensures.cause.steady ∙ c.loop-done.invariant.steady;
    }
