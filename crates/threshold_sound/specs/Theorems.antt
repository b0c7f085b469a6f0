-- What a text makes is a sound image of thresholds.
use Rattle.std.specs.Prelude.{ℕ, ◌*◌, List, ◌≡◌, length, take, Ok}
use Rattle.threshold_image.specs.Image.{thresholds_check, Thresholds}
use Rattle.threshold_made.specs.Made.{threshold_answer_of, threshold_made_of, threshold_made, threshold_leaves, image_made}

-- every text of every length that is answered with n sites is a sound image of n sites
abbrev pub ThresholdsMadeSound : Type 0
ThresholdsMadeSound = (text : List ℕ) (n : ℕ) → threshold_answer_of (threshold_made_of text).spot ≡ Ok n → Thresholds (image_made text) n

-- and the check takes it
abbrev pub ThresholdsMadeChecked : Type 0
ThresholdsMadeChecked = (text : List ℕ) (n : ℕ) → threshold_answer_of (threshold_made_of text).spot ≡ Ok n → thresholds_check (image_made text) ≡ Ok tt

-- of the public call, for every room: where it answers n sites, the check takes the room's first 512 n bytes
abbrev pub ThresholdsLeftSound : Type 0
ThresholdsLeftSound =
    (text room : List ℕ) (n : ℕ) → threshold_made text (length room) ≡ Ok n →
    thresholds_check (take (512 * n) (threshold_leaves text room)) ≡ Ok tt
