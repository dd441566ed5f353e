-- The two kinds as the code names them: definitions alone.
use Rattle.defs.specs.Kinds.{Kind, square, cube}
use Rattle.values.specs.declared.kind.Kind.{Kind as Named}
use Rattle.values.specs.declared.kind.Kind.TheVariants.{Square, Cube}

-- the kind as the code names it
abbrev pub name_of : Kind → Named
name_of square = Square
name_of cube = Cube

-- the kind that the code's name means
abbrev pub kind_of : Named → Kind
kind_of Square = square
kind_of Cube = cube
