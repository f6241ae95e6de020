-- A message that is fed to a SHA-256 piece by piece.
use Rattle.std.specs.Prelude.{ℕ, ◌≡◌, ◌^◌, min, List, length, replicate, nat_lt, if◌then◌else◌}
use Rattle.sha2.specs.Hashers.{Holds256}
use Rattle.sha2.specs.Sha256.{sha256}
use Rattle.mv_provenance.specs.declared.message.Message.{Message}

-- the SHA-256 of a message (FIPS 180-4); it is defined for fewer than 2^61 bytes, and for more there stand 32 zero bytes
abbrev pub digest_of : List ℕ → List ℕ
digest_of bytes = if nat_lt (length bytes) (2 ^ 61) then sha256 bytes else replicate 32 0

-- the message was fed these bytes, and no others
pub record Fed (message : Message) (bytes : List ℕ) : Type 0 where
  pub holds : Holds256 message.hasher bytes
  pub number : message.length ≡ min (length bytes) (2 ^ 61)
