-- What a case's shape holds, its sources, and both.
-- Assumes nothing.
use Rattle.std.specs.Prelude.{◌≡◌, ℕ, suc, ◌+◌, ◌*◌, ◌≤◌, List, length, get_or, take}
use Rattle.model.specs.Limits.{most_items}
use Rattle.model.specs.CaseFile.{Case, item_count}
use Rattle.script.specs.Assertions.{most_sources, sources_of}
use Rattle.linked.specs.declared.Shape.{Shape}
use Rattle.linked.specs.declared.Sources.{Sources}
use Rattle.linked.specs.declared.Frame.{Frame}

pub record HasShape (case : Case) (shape : Shape) : Type 0 where
  pub threads : shape.threads ≡ case.T
  pub switches : shape.switches ≡ case.n
  pub unrun : shape.unrun ≡ suc case.n
  pub globals : shape.globals ≡ case.G
  pub items : shape.items ≡ item_count case
  pub base : shape.base ≡ 2 * case.R
  pub whole : length shape.first ≡ most_items
  pub first : (g : ℕ) → get_or shape.first g 0 ≡ get_or case.initial g 0

-- The sources that an array of them holds.
abbrev pub source_list : Sources → List ℕ
source_list sources = take sources.count sources.records

-- The sources of a case, in an array that has room for the most.
pub record HasSources (case : Case) (sources : Sources) : Type 0 where
  pub few : sources.count ≤ most_sources
  pub many : length (sources_of case) ≡ sources.count
  pub list : source_list sources ≡ sources_of case

-- What assertions need of a case: both.
pub record HasFrame (case : Case) (frame : Frame) : Type 0 where
  pub shape : HasShape case frame.shape
  pub sources : HasSources case frame.sources

abbrev pub block_value_number : Shape → ℕ → ℕ → ℕ
block_value_number shape i g = shape.base + i * shape.items + g
