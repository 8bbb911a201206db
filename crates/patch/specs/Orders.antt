-- An order by the list of its nodes.
use Rattle.std.specs.Prelude.{ℕ, List}
use Rattle.patch.specs.declared.orders.Order.{Order}

abbrev pub listed : Order → List ℕ
listed o = o.nodes.items
