use Rattle.std.proofs.Common.{sym, refl, lit<, lit≤}
use Rattle.patch.proofs.Working.{worked}
use Rattle.voices.proofs.Weights.{weighs_by, weight_is}
use Rattle.worked.proofs.proved.ten.Goals as goal

pub returns : goal.returns
returns c = record {
  answer = refl;
  ten_examples = record {
    halved = (refl, refl);
    delayed = refl;
    summed = refl;
    filtered = refl;
    limited = refl;
    limited_to_one = refl;
    weights = (
      sym (weight_is 0 16384 (weighs_by 0 16384 (lit≤ tt) (lit< tt))),
      sym (weight_is 128 11585 (weighs_by 128 11585 (lit≤ tt) (lit< tt))),
      sym (weight_is 256 0 (weighs_by 256 0 (lit≤ tt) (lit< tt))),
    );
    by_itself = λ rack. (refl, λ late ours. ours 0 (lit< tt), λ sets swept. swept 0 (lit< tt));
    held = worked.late;
    refused = λ rack. (refl, refl);
  };
}
