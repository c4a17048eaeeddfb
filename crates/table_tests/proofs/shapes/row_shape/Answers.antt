-- `table_tests::shapes::row_shape` meets its contract: by the kind.
use Rattle.table_tests.proofs.ShapeLaws.{literal_shape_lem, node_shape}
use Rattle.table_tests.proofs.shapes.row_shape.Goals as goal

pub returns-then-byte_at-ne48 : goal.returns-then-byte_at-ne48
returns-then-byte_at-ne48 c = search literal_shape_lem

pub returns : goal.returns
returns c = search node_shape
