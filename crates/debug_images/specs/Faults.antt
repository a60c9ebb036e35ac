-- What is said of a debug file whose program is not found, and the exit status. Source: mos65.
use Rattle.std.specs.Prelude.{ℕ, List, ◌++◌, codes}
use Rattle.clap.specs.Words.{Text}
use Rattle.arguments.specs.FaultLines.{file_line, line_of, load_text}
use Rattle.arguments.specs.Statuses.{status_of, status_of_load}
use Rattle.arguments.specs.declared.refusal.Refusal.TheVariants as refusal
use Rattle.debug_images.specs.declared.fault.ImageFault.{ImageFault}
use Rattle.debug_images.specs.declared.fault.ImageFault.TheVariants.{Unread, NoText, NoPlace, Short, NoFile, OutOfMemory}
use Rattle.debug_images.specs.declared.fault.TheConstants.{NO_FILE, NO_PLACE, NO_TEXT, SHORT}

-- A line that names the debug file and one of its program.
abbrev pub of_file : Text → List ℕ → List ℕ → List ℕ
of_file file name what = line_of file (codes ": " ++ (name ++ (what ++ codes "\n")))

-- A line that names the debug file alone.
abbrev pub alone : Text → List ℕ → List ℕ
alone file what = line_of file (what ++ codes "\n")

abbrev pub told_text : Text → ImageFault → List ℕ
told_text file (Unread fault) = load_text fault file
told_text file (NoPlace name) = of_file file name.items NO_PLACE.now
told_text file (Short name) = of_file file name.items SHORT.now
told_text file (NoText name) = of_file file name.items NO_TEXT.now
told_text file NoFile = alone file NO_FILE.now
told_text file OutOfMemory = file_line file refusal.OutOfMemory

abbrev pub status_of_image : ImageFault → ℕ
status_of_image (Unread fault) = status_of_load fault
status_of_image OutOfMemory = status_of refusal.OutOfMemory
status_of_image fault = 1
