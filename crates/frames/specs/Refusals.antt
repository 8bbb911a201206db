-- How a refusal is printed.
use Rattle.std.specs.Prelude.{ℕ, List, ◌++◌, codes, decimal}
use Rattle.frames.specs.declared.refusals.Layer.{Layer}
use Rattle.frames.specs.declared.refusals.Layer.TheVariants.{Text, Wave, Patch, Play}
use Rattle.frames.specs.declared.refusals.Refusal.{Refusal}

abbrev pub layer_name : Layer → List ℕ
layer_name Text = codes "text"
layer_name Wave = codes "wave"
layer_name Patch = codes "patch"
layer_name Play = codes "play"

-- `refused`, the number, the layer and the two places, in decimal, with single spaces.
abbrev pub refused_line : Refusal → List ℕ
refused_line r =
    codes "refused " ++ (decimal r.number ++ (codes " " ++ (layer_name r.layer ++ (codes " " ++ (decimal r.first ++ (codes " " ++ decimal r.second))))))
