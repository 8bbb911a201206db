use Rattle.std.proofs.Common.{sym, refl, lit<, lit≤}
use Rattle.voices.proofs.Weights.{weighs_by, weight_is}
use Rattle.voices.proofs.proved.examples.Goals as goal

pub returns : goal.returns
returns c = record {
  answer = refl;
  examples = record {
    delayed = refl;
    filtered = refl;
    limited = refl;
    limited_to_one = refl;
    hard_left = sym (weight_is 0 16384 (weighs_by 0 16384 (lit≤ tt) (lit< tt)));
    middle = sym (weight_is 128 11585 (weighs_by 128 11585 (lit≤ tt) (lit< tt)));
    hard_right = sym (weight_is 256 0 (weighs_by 256 0 (lit≤ tt) (lit< tt)));
    bypassed = refl;
    bypassed_late = refl;
    trimmed_up = refl;
  };
}
