-- The image of a source in other forms.
use Rattle.std.proofs.Common.{◌≡◌, ℕ, List, [], Option, None, Some}
use Rattle.word_asm.specs.Images.{AreImages, AreImagesOf, IsRaw}
use Rattle.word_asm.specs.declared.images.ImageTexts.{ImageTexts}
use Rattle.word_asm.specs.declared.images.ImagesAsked.{ImagesAsked}
use Rattle.image_files.specs.Ends.{AreEnds}
use Rattle.image_reader.specs.Images.{raw_image}
use Rattle.image_writer.specs.Window.{IsReadPart}
use Rattle.model.specs.Source.{Denotes}
use Rattle.model.specs.State.{Map}

pub raw_none : (image : List (Option ℕ)) (fill : ℕ) (out : List ℕ) → AreEnds image None → out ≡ [] → IsRaw fill image out
raw_none image fill out ends is = (None, ends, is)

pub raw_some : (image : List (Option ℕ)) (fill low high : ℕ) (out : List ℕ) → AreEnds image (Some (low, high))
    → IsReadPart low high fill image (raw_image low out) → IsRaw fill image out
raw_some image fill low high out ends read = (Some (low, high), ends, read)

pub images_as : (bus_map : Map) (source : List ℕ) (image : List (Option ℕ)) (asked : ImagesAsked) (t : ImageTexts) → Denotes bus_map source image
    → AreImages asked image t → AreImagesOf bus_map source asked t
images_as bus_map source image asked t denotes are = (image, denotes, are)
