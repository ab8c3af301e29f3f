-- The record of every fault: its number, its layer (1 text, 2 line, 3 model, 4 count, 5 service, 6 console), its place and its instance.
-- The place is an offset from 0 or a length in layer 1, a line from 1 in layer 2, the number of a node or flow in layer 3, and the number of a node, figure or flow in layers 4 and 5.
use Rattle.std.specs.Prelude.{ℕ}
use Rattle.fault.specs.declared.record.FaultRecord.{FaultRecord}
use Rattle.fault.specs.declared.text.TextFault.{TextFault}
use Rattle.fault.specs.declared.text.TextFault.TheVariants as text
use Rattle.fault.specs.declared.line.LineFault.{LineFault}
use Rattle.fault.specs.declared.line.LineFault.TheVariants as line
use Rattle.fault.specs.declared.model.ModelFault.{ModelFault}
use Rattle.fault.specs.declared.model.ModelFault.TheVariants as model
use Rattle.fault.specs.declared.console.ConsoleFault.{ConsoleFault}
use Rattle.fault.specs.declared.console.ConsoleFault.TheVariants as console
use Rattle.fault.specs.declared.graph.GraphFault.{GraphFault}
use Rattle.fault.specs.declared.graph.GraphFault.TheVariants as graph
use Rattle.fault.specs.declared.service.ServiceFault.{ServiceFault}
use Rattle.fault.specs.declared.service.ServiceFault.TheVariants as service
use Rattle.fault.specs.declared.count.CountFault.{CountFault}
use Rattle.fault.specs.declared.count.CountFault.TheVariants as count

-- a fault outside a count
abbrev pub told : ℕ → ℕ → ℕ → FaultRecord
told n l p = record { number = n; layer = l; place = p; instance = 0 }

abbrev pub text_record : TextFault → FaultRecord
text_record text.Size = told 11 1 0
text_record (text.Byte offset) = told 12 1 offset
text_record (text.Ending length) = told 13 1 length

abbrev pub line_record : LineFault → FaultRecord
line_record (line.Text fault) = text_record fault
line_record (line.Form n) = told 21 2 n
line_record (line.Number n) = told 22 2 n
line_record (line.Sequence n) = told 23 2 n
line_record (line.TooMany n) = told 24 2 n
line_record (line.MissingNode n) = told 25 2 n

abbrev pub model_record : ModelFault → FaultRecord
model_record (model.Line fault) = line_record fault
model_record model.StartsAndEnds = told 31 3 0
model_record (model.FlowCount node) = told 32 3 node
model_record (model.SelfLoop flow) = told 33 3 flow
model_record (model.Guard flow) = told 34 3 flow
model_record (model.SecondDefault flow) = told 35 3 flow
model_record (model.NotReached node) = told 36 3 node

abbrev pub console_record : ConsoleFault → FaultRecord
console_record (console.Model fault) = model_record fault
console_record (console.Order fault) = line_record fault
console_record (console.NoRoom place) = told 46 6 place

abbrev pub graph_record : GraphFault → FaultRecord
graph_record graph.Full = told 68 4 0
graph_record graph.Empty = told 69 4 0
graph_record graph.TooMany = told 70 4 0

abbrev pub service_record : ServiceFault → FaultRecord
service_record (service.NodeNumber node) = told 43 5 node
service_record service.Value = told 42 5 0
service_record (service.Full node) = told 66 5 node
service_record (service.NoAnswer node) = told 63 5 node

-- a fault of a count
abbrev pub of_count : ℕ → ℕ → ℕ → FaultRecord
of_count n p i = record { number = n; layer = 4; place = p; instance = i }

-- the same record, in the instance of a count
abbrev in_instance : FaultRecord → ℕ → FaultRecord
in_instance r i = record { number = r.number; layer = r.layer; place = r.place; instance = i }

abbrev pub count_record : CountFault → FaultRecord
count_record (count.FigureNumber figure i) = of_count 41 figure i
count_record (count.Value i) = of_count 42 0 i
count_record (count.NodeNumber node i) = of_count 43 node i
count_record (count.NotInclusive node i) = of_count 44 node i
count_record (count.NotReady node i) = of_count 61 node i
count_record (count.JournalFull node i) = of_count 62 node i
count_record (count.Service fault i) = in_instance (service_record fault) i
count_record (count.NoWay node i) = of_count 64 node i
count_record (count.Occupied flow i) = of_count 65 flow i
count_record (count.Ready node i) = of_count 71 node i
count_record (count.NoToken node i) = of_count 72 node i
