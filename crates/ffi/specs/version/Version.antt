-- The version of the library as a number (SCOPE 16.6). Assumes nothing.
use Rattle.std.specs.Prelude.{ℕ, ◌+◌, ◌*◌}

-- A version by its three numbers.
abbrev pub version_of : ℕ → ℕ → ℕ → ℕ
version_of major minor patch = major * 1_000_000 + minor * 1_000 + patch

-- The version of this library.
abbrev pub version_now : ℕ
version_now = version_of 0 5 2
