-- The bytes of a WAVE file of 16-bit stereo frames.
use Rattle.std.specs.Prelude.{ℕ, ◌+◌, ◌*◌, ◌/◌, ◌%◌, List, [], ◌∷◌, ◌++◌, length, codes}
use Rattle.frames.specs.Samples.{word}
use Rattle.frames.specs.declared.samples.Frame.{Frame}
use Rattle.std.specs.List.{flat_map}

-- A number in two bytes and in four, the lowest byte first.
abbrev pub two_bytes : ℕ → List ℕ
two_bytes n = (n % 256) ∷ (n / 256 % 256) ∷ []

abbrev pub four_bytes : ℕ → List ℕ
four_bytes n = (n % 256) ∷ (n / 256 % 256) ∷ (n / 65536 % 256) ∷ (n / 16777216 % 256) ∷ []

-- A frame's bytes are its left sample's and then its right one's.
abbrev pub frame_bytes : Frame → List ℕ
frame_bytes f = two_bytes (word f.left) ++ two_bytes (word f.right)

abbrev pub frames_bytes : List Frame → List ℕ
frames_bytes = flat_map frame_bytes

-- A head around the bytes of its four numbers: the form `RIFF` with the size of all that follows it; the form's name
-- `WAVE`; a chunk `fmt ` of 16 bytes with tag 1 (whole numbers), 2 channels, the rate, the bytes a second, 4 bytes a frame
-- and 16 bits a sample; and the head of the chunk `data` with its size.
unfoldable pub head_around : List ℕ → List ℕ → List ℕ → List ℕ → List ℕ
head_around size rate byte-rate data-size =
    codes "RIFF" ++ (size ++ (codes "WAVE" ++ (codes "fmt " ++ (four_bytes 16 ++ (two_bytes 1 ++ (two_bytes 2
    ++ (rate ++ (byte-rate ++ (two_bytes 4 ++ (two_bytes 16 ++ (codes "data" ++ data-size)))))))))))

-- The 44 bytes before n frames at a rate.
abbrev pub head_bytes : ℕ → ℕ → List ℕ
head_bytes n rate = head_around (four_bytes (36 + 4 * n)) (four_bytes rate) (four_bytes (4 * rate)) (four_bytes (4 * n))

-- A file: the head, then the frames.
abbrev pub file_bytes : ℕ → List Frame → List ℕ
file_bytes rate fs = head_bytes (length fs) rate ++ frames_bytes fs
