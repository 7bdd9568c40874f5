-- How a fault is printed. Assumes nothing.
use Rattle.std.specs.Prelude.{ℕ, List, ◌++◌, codes, decimal}
use Rattle.jobfile.specs.declared.faults.ReaderFault.TheVariants.{Short, TooMany, UnknownCode, Denominator, LeftOver}
use Rattle.jobfile.specs.declared.faults.FrameFault.TheVariants.{Backwards}
use Rattle.jobfile.specs.declared.faults.Fault.{Fault}
use Rattle.jobfile.specs.declared.faults.Fault.TheVariants.{Reader as FromReader, Frame as FromFrame}
use Rattle.jobfile.specs.declared.notice.Layer.{Layer}
use Rattle.jobfile.specs.declared.notice.Layer.TheVariants.{Reader, Frame as FrameLayer}
use Rattle.jobfile.specs.declared.notice.Notice.{Notice}

-- Each fault: its layer, its number and its place.
abbrev pub printed : Fault → Notice
printed (FromReader (Short p)) = record { layer = Reader; number = 1; place = p }
printed (FromReader (TooMany p)) = record { layer = Reader; number = 2; place = p }
printed (FromReader (UnknownCode p)) = record { layer = Reader; number = 3; place = p }
printed (FromReader (Denominator p)) = record { layer = Reader; number = 4; place = p }
printed (FromReader (LeftOver p)) = record { layer = Reader; number = 5; place = p }
printed (FromFrame (Backwards i)) = record { layer = FrameLayer; number = 6; place = i }

abbrev pub layer_text : Layer → List ℕ
layer_text Reader = codes "reader"
layer_text FrameLayer = codes "frame"

abbrev pub notice_text : Notice → List ℕ
notice_text n = codes "REFUSED " ++ (layer_text n.layer ++ (codes " " ++ (decimal n.number ++ (codes " " ++ decimal n.place))))
