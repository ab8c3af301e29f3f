use Rattle.reading.proofs.Orders.{order-described}
use Rattle.reading.proofs.order.read_order.Goals as goal

pub returns : goal.returns
returns c = record { read = c.read_lines.ensures; writing = order-described c.args.text.now c.read_lines.result c.read_lines.ensures }
