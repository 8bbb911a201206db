-- Buffers filled from the front, and frames one after the other.
use Rattle.std.proofs.Common.{◌≡◌, ℕ, zero, suc, ◌+◌, ◌<◌, List, [], ◌∷◌, ◌++◌, length, drop, set, pos, sym, refl, ap, ◌∙◌, arith}
use Rattle.playing.specs.Tape.{on_tape}
use Rattle.playing.specs.Work.{after_frames, Deck, frame_work, frames_out}
use Rattle.reels.specs.Tracks.{Tracks}
use Rattle.session.specs.Plan.{Plan}
use Rattle.std.proofs.lemmas.List.{drop-drop, length-drop}

-- what is written at place k stands behind the k that were written before
pub set_next : {X : Type 0} (xs ys : List X) (k : ℕ) (y : X) → length xs ≡ k → k < length ys → set (xs ++ drop k ys) k y ≡ (xs ++ y ∷ []) ++ drop (k + 1) ys
set_next {X = X} xs ys k y e l = ap (λ j. set (xs ++ drop k ys) j y) (sym e) ∙ at_end xs (drop k ys) y (omega (arith, length-drop k ys)) ∙ ap (λ zs. (xs ++ y ∷ []) ++ zs) (drop-drop 1 k ys)
  where
    at_end : (xs zs : List X) (y : X) → 0 < length zs → set (xs ++ zs) (length xs) y ≡ (xs ++ y ∷ []) ++ drop 1 zs
    at_end [] [] y h = absurd (omega arith)
    at_end [] (z ∷ zs) y h = refl
    at_end (x ∷ xs) zs y h = ap (λ l. x ∷ l) (at_end xs zs y h)

module _ (p : Plan) (order : List ℕ) (delay : ℕ → ℕ) (reel : Tracks) where
  last : (k n : ℕ) (d : Deck) → after_frames p order delay reel (suc k) n d ≡ frame_work p order delay reel (n + k) (after_frames p order delay reel k n d)
  last zero n d = ap (λ j. frame_work p order delay reel j d) (let z : n ≡ n + 0 = omega arith in z)
  last (suc k) n d =
      last k (n + 1) (frame_work p order delay reel n d)
      ∙ ap (λ j. frame_work p order delay reel j (after_frames p order delay reel k (n + 1) (frame_work p order delay reel n d))) (let z : n + 1 + k ≡ n + suc k = omega arith in z)

  pub after_more : (k n : ℕ) (d : Deck) → after_frames p order delay reel (k + 1) n d ≡ frame_work p order delay reel (n + k) (after_frames p order delay reel k n d)
  after_more k n d = ap (λ j. after_frames p order delay reel j n d) (let z : k + 1 ≡ suc k = omega arith in z) ∙ last k n d

  last_out : (k n : ℕ) (d : Deck) → frames_out p order delay reel (suc k) n d
      ≡ frames_out p order delay reel k n d ++ on_tape (after_frames p order delay reel (suc k) n d).tape 0 (pos (n + k)) ∷ []
  last_out zero n d = ap (λ j. on_tape (frame_work p order delay reel n d).tape 0 (pos j) ∷ []) (let z : n ≡ n + 0 = omega arith in z)
  last_out (suc k) n d =
      let e = frame_work p order delay reel n d in
      ap (λ l. on_tape e.tape 0 (pos n) ∷ l)
      (last_out k (n + 1) e
      ∙ ap (λ j. frames_out p order delay reel k (n + 1) e ++ on_tape (after_frames p order delay reel (suc k) (n + 1) e).tape 0 (pos j) ∷ []) (let z : n + 1 + k ≡ n + suc k = omega arith in z))

  pub out_more : (k n : ℕ) (d : Deck) → frames_out p order delay reel (k + 1) n d
      ≡ frames_out p order delay reel k n d ++ on_tape (after_frames p order delay reel (k + 1) n d).tape 0 (pos (n + k)) ∷ []
  out_more k n d =
      ap (λ j. frames_out p order delay reel j n d) (let z : k + 1 ≡ suc k = omega arith in z) ∙ last_out k n d
      ∙ ap (λ j. frames_out p order delay reel k n d ++ on_tape (after_frames p order delay reel j n d).tape 0 (pos (n + k)) ∷ []) (let z : suc k ≡ k + 1 = omega arith in z)

  pub out_length : (k n : ℕ) (d : Deck) → length (frames_out p order delay reel k n d) ≡ k
  out_length zero n d = refl
  out_length (suc k) n d = ap suc (out_length k (n + 1) (frame_work p order delay reel n d))
