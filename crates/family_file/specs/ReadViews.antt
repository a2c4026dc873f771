-- What the parts that are read stand for in the definitions.
use Rattle.family_file.specs.declared.read.Body.{Body}
use Rattle.family_file.specs.declared.read.Shape.{Shape}
use Rattle.family_file.specs.Family.{BodyData, ShapeData}

abbrev pub shape_view : Shape → ShapeData
shape_view s = record { loops = s.loops; legs = s.legs; variables = s.variables }

abbrev pub read_body_view : Body → BodyData
read_body_view b = record { dimension = b.dimension; numbers = b.numbers; baikov = b.baikov; zero = b.zero.items; targets = b.targets.items }
