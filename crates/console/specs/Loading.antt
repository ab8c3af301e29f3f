-- What the console makes of its input.
use Rattle.std.specs.Prelude.{◌≡◌, ℕ, ◌⊎◌, List, Ok, Err, Result}
use Rattle.fault.specs.declared.console.ConsoleFault.{ConsoleFault}
use Rattle.fault.specs.declared.console.ConsoleFault.TheVariants as console
use Rattle.fault.specs.declared.line.LineFault.{LineFault}
use Rattle.fault.specs.declared.model.ModelFault.{ModelFault}
use Rattle.model.specs.declared.model.Model.{Model}
use Rattle.model.specs.Models.{draft_of}
use Rattle.reading.specs.declared.order.OrderLine.{OrderLine}
use Rattle.reading.specs.Orders.{order_read}
use Rattle.reading.specs.Readings.{TheFaultOf, process_of}
use Rattle.reading.specs.Writings.{Describes}
use Rattle.service.specs.declared.order_file.OrderFile.{OrderFile}
use Rattle.service.specs.OrderFiles.{Filled}
use Rattle.console.specs.declared.Input.{Input}

-- the text describes the model
abbrev pub Models : List ℕ → Model → Type 0
Models text m = Describes text (process_of (draft_of m))

-- the model text is refused with the fault
abbrev pub ModelRefused : List ℕ → ConsoleFault → Type 0
ModelRefused text fault = (f : ModelFault) × (fault ≡ console.Model f) × TheFaultOf text f

-- the file holds the answers of the order text
abbrev pub Orders : List ℕ → OrderFile → Type 0
Orders text file = (os : List OrderLine) × Filled text file os

-- the order text is refused with the fault
abbrev pub OrderRefused : List ℕ → ConsoleFault → Type 0
OrderRefused text fault = (f : LineFault) × (fault ≡ console.Order f) × (order_read text ≡ Err f)

abbrev pub ModelLoaded : List ℕ → Result Model ConsoleFault → Type 0
ModelLoaded text (Ok m) = Models text m
ModelLoaded text (Err fault) = ModelRefused text fault

abbrev pub OrderLoaded : List ℕ → Result OrderFile ConsoleFault → Type 0
OrderLoaded text (Ok file) = Orders text file
OrderLoaded text (Err fault) = OrderRefused text fault

-- both texts are accepted; or the model text is refused; or it is not, and the order text is
abbrev pub Loaded : List ℕ → List ℕ → Result Input ConsoleFault → Type 0
Loaded model-text order-text (Ok input) = Models model-text input.model × Orders order-text input.order
Loaded model-text order-text (Err fault) = ModelRefused model-text fault ⊎ (((m : Model) × Models model-text m) × OrderRefused order-text fault)
