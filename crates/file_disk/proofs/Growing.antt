-- A file that has grown twice.
use Rattle.std.proofs.Common.{◌≡◌, ℕ, ◌+◌, List, [], ◌++◌, take, drop, sym, ap, ◌∙◌, append-nil, append_assoc, take-add}
use Rattle.file_disk.specs.Files.{FileState, file_grown}

-- the file with these octets that are not synced
abbrev with_unsynced : FileState → List ℕ → FileState
with_unsynced s bytes = record s { octets = record { synced = s.octets.synced; unsynced = bytes } }

pub grown_nothing : (s : FileState) → file_grown s [] ≡ s
grown_nothing s = ap (with_unsynced s) (append-nil s.octets.unsynced)

pub grown_more : (s : FileState) (n m : ℕ) (bytes : List ℕ) → file_grown (file_grown s (take n bytes)) (take m (drop n bytes)) ≡ file_grown s (take (n + m) bytes)
grown_more s n m bytes =
    ap (with_unsynced s) (append_assoc s.octets.unsynced (take n bytes) (take m (drop n bytes)) ∙ ap (λ (more : List ℕ). s.octets.unsynced ++ more) (sym (take-add n m bytes)))
