-- A side as the rows tell it. Source: mos65.
use Rattle.word_cmp.specs.DifferenceRows.{SideView}
use Rattle.word_cmp.specs.declared.sides.Side.{Side}

abbrev pub side_view : Side → SideView
side_view side = record {
  name = side.name.now;
  image = side.image;
  starts = side.starts.items;
  profile = side.profile;
}
