-- The lengths of a file's bytes, and the bytes of a list of frames one frame further.
use Rattle.std.proofs.Common.{◌≡◌, ℕ, ◌+◌, ◌*◌, ◌<◌, ◌≤◌, List, [], ◌∷◌, ◌++◌, length, get_or, take, drop, sym, refl, ap, ◌∙◌, ap₂, append_assoc, arith}
use Rattle.frames.specs.declared.samples.Frame.{Frame}
use Rattle.std.proofs.lemmas.List.{drop_at, drop-drop, flat_map_more, length-take-le, take_at, take_more}
use Rattle.wave.specs.Bytes.{frame_bytes, frames_bytes, head_around, head_bytes}

pub head_length : (n rate : ℕ) → length (head_bytes n rate) ≡ 44
unfolding head_around
head_length n rate = refl

pub frames_bytes_length : (fs : List Frame) → length (frames_bytes fs) ≡ 4 * length fs
frames_bytes_length [] = refl
frames_bytes_length (f ∷ fs) = let h = frames_bytes_length fs in omega arith

-- the bytes of the first i frames
pub front_length : (fs : List Frame) (i : ℕ) → i ≤ length fs → length (frames_bytes (take i fs)) ≡ 4 * i
front_length fs i h = frames_bytes_length (take i fs) ∙ ap (λ n. 4 * n) (length-take-le i fs h)

pub frames_bytes_push : (fs : List Frame) (f : Frame) → frames_bytes fs ++ frame_bytes f ≡ frames_bytes (fs ++ f ∷ [])
frames_bytes_push fs f = flat_map_more frame_bytes [] fs f

pub written_more : (fs : List Frame) (was out after : List ℕ) (i : ℕ) (d : Frame) → i < length fs
    → out ≡ frames_bytes (take i fs) ++ drop (4 * i) was
    → after ≡ take (4 * i) out ++ (frame_bytes (get_or fs i d) ++ drop (4 * i + 4) out)
    → after ≡ frames_bytes (take (i + 1) fs) ++ drop (4 * (i + 1)) was
written_more fs was out after i d h inv step =
    let front = frames_bytes (take i fs) in
    let long : length front ≡ 4 * i = front_length fs i (omega arith) in
    let t : take (4 * i) out ≡ front = ap (take (4 * i)) inv ∙ take_at front (drop (4 * i) was) (4 * i) long in
    let q : drop (4 * i) out ≡ drop (4 * i) was = ap (drop (4 * i)) inv ∙ drop_at front (drop (4 * i) was) (4 * i) long in
    let e : 4 * i + 4 ≡ 4 * (i + 1) = omega arith in
    let u : drop (4 * i + 4) out ≡ drop (4 * (i + 1)) was = sym (drop-drop 4 (4 * i) out) ∙ ap (drop 4) q ∙ drop-drop 4 (4 * i) was ∙ ap (λ n. drop n was) e in
    step ∙ ap₂ (λ x y. x ++ (frame_bytes (get_or fs i d) ++ y)) t u ∙ sym (append_assoc front (frame_bytes (get_or fs i d)) (drop (4 * (i + 1)) was))
    ∙ ap (λ x. x ++ drop (4 * (i + 1)) was) (frames_bytes_push (take i fs) (get_or fs i d) ∙ ap frames_bytes (sym (take_more fs i d h)))
