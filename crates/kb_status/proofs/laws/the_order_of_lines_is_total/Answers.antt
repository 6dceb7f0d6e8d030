use Rattle.kb_status.proofs.OrderLaws.{line_order_total, line_order_exact}
use Rattle.kb_status.proofs.laws.the_order_of_lines_is_total.Goals as goal

pub returns : goal.returns
returns c = record { total = line_order_total; exact = line_order_exact }
