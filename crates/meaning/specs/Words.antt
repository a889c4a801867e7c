-- Words, their parts, and bytes.
-- Assumes nothing.
use Rattle.std.specs.Prelude.{List, [], ◌∷◌, ℕ, ◌+◌, ◌*◌, ◌-◌, ◌/◌, ◌%◌, ◌<◌, ◌^◌}
use Rattle.meaning.specs.declared.SubAddress.{SubAddress}
use Rattle.meaning.specs.declared.VideoOffset.{VideoOffset}

-- B1 "words of 32 bits"
abbrev pub Word : ℕ → Type 0
Word w = w < 2 ^ 32

-- C2 "every buffer is bytes"
abbrev pub Byte : ℕ → Type 0
Byte b = b < 2 ^ 8

-- bits hi:lo of a word, read as one number
abbrev pub bits : ℕ → ℕ → ℕ → ℕ
bits hi lo w = w / 2 ^ lo % 2 ^ (hi + 1 - lo)

-- B2 "bits 31:16 are the count n"
unfoldable pub count : ℕ → ℕ
count h = bits 31 16 h

-- B2 "bits 15:0 a byte offset"
unfoldable pub offset : ℕ → ℕ
offset h = bits 15 0 h

-- the offset, where it is meant for a video register
abbrev pub video_offset : ℕ → VideoOffset
video_offset h = record { 0 = offset h }

-- B3 "The first is bound for the header's offset, each one after it for an offset that is 4 higher."
abbrev pub following : VideoOffset → VideoOffset
following o = record { 0 = o.0 + 4 }

-- B5 "the setting: HParaAdr in bits 7:0"
unfoldable pub para_adr : ℕ → ℕ
para_adr s = bits 7 0 s

-- B5 "HParaOS in bits 15:8"
unfoldable pub para_os : ℕ → ℕ
para_os s = bits 15 8 s

-- B5 "HParaType in bits 23:16"
unfoldable pub para_type : ℕ → ℕ
para_type s = bits 23 16 s

-- B5 "HParaSubType in bits 31:24"
unfoldable pub para_sub_type : ℕ → ℕ
para_sub_type s = bits 31 24 s

-- B8 "parameters: a sub-address in bits 31:24"
unfoldable pub sub_address : ℕ → SubAddress
sub_address p = record { 0 = bits 31 24 p }

-- B8 "data in bits 23:0"
unfoldable pub data24 : ℕ → ℕ
data24 p = bits 23 0 p

-- C2 "four bytes are a word of 32 bits, the lowest byte first"
abbrev pub word_of : ℕ → ℕ → ℕ → ℕ → ℕ
word_of a b c d = a + b * 2 ^ 8 + c * 2 ^ 16 + d * 2 ^ 24

-- the words of a buffer of bytes; fewer than four bytes at its end make no word
abbrev pub words_of : List ℕ → List ℕ
words_of [] = []
words_of (a ∷ []) = []
words_of (a ∷ b ∷ []) = []
words_of (a ∷ b ∷ c ∷ []) = []
words_of (a ∷ b ∷ c ∷ d ∷ rest) = word_of a b c d ∷ words_of rest

-- the bytes of words, C2 "the lowest byte first"
abbrev pub bytes_of : List ℕ → List ℕ
bytes_of [] = []
bytes_of (w ∷ ws) = bits 7 0 w ∷ bits 15 8 w ∷ bits 23 16 w ∷ bits 31 24 w ∷ bytes_of ws
