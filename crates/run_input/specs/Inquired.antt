-- How the program was asked about itself. Public clauses cite this.
use Rattle.std.specs.Prelude.{◌≡◌, Some}
use Rattle.volume_files.specs.block_device.Counts.{HasRisen}
use Rattle.volume_files.specs.block_device.StreamSeen.{SinkSeen}
use Rattle.volume_files.specs.stored_files.Texts.{Wrote, WrotePart}
use Rattle.command_line.specs.declared.inquiry.Inquiry.{Inquiry}
use Rattle.command_line.specs.declared.saying.Saying.TheVariants as says
use Rattle.command_line.specs.Inquiries.{inquiry_text}
use Rattle.command_line.specs.Sayings.{saying_of}
use Rattle.run_endings.specs.declared.ending.Ending.{Ending}
use Rattle.run_endings.specs.declared.ending.Ending.TheVariants as ending
use Rattle.run_endings.specs.declared.inquiry_end.InquiryEnd.TheVariants as inquired
use Rattle.run_input.specs.Asked.{Given}

-- THE PROGRAM WAS ASKED ABOUT ITSELF: the words say so.
abbrev pub WasInquired : Given → Inquiry → Type 0
WasInquired g q = saying_of g.words ≡ Some (says.Inquiry q)

-- The text that was asked for was written whole.
abbrev pub WroteInquiry : SinkSeen → SinkSeen → Inquiry → Type 0
WroteInquiry old new q = Wrote old new (inquiry_text q)

-- The sink failed in it.
abbrev pub StopsInInquiry : SinkSeen → SinkSeen → Inquiry → Type 0
StopsInInquiry old new q = HasRisen old.faults new.faults × WrotePart old new (inquiry_text q)

-- How the telling of it ends: it is told, or the sink failed.
abbrev pub TellsInquiry : Inquiry → SinkSeen → SinkSeen → Ending → Type 0
TellsInquiry q old new (ending.Informed (inquired.Told p)) = (p ≡ q) × WroteInquiry old new q
TellsInquiry q old new (ending.Informed (inquired.Sink p)) = (p ≡ q) × StopsInInquiry old new q
TellsInquiry q old new how = ⊥
