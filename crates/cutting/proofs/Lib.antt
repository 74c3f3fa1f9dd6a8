pub mod cutpairs
